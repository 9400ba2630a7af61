-- In an image that holds a depot just that depot is found, so an image holds one at most. And what
-- was read of it is what it is: its journal, and the content of each version that is held.
use Rattle.std.specs.Prelude.{◌≡◌, Ok}
use Rattle.depot_disk.specs.Image.{Image}
use Rattle.depot_recovery.specs.Depots.{DepotOf}
use Rattle.depot_recovery.specs.Found.{found_in}
use Rattle.depot_recovery.specs.Images.{IsSoundAs}
use Rattle.depot_recovery.specs.Recovered.{HoldsSound, IsFoundIn}
use Rattle.depot_recovery.specs.declared.found.Found.{Found}

abbrev pub FindsWhatIsHeld : Type 0
FindsWhatIsHeld = (depot : DepotOf) (image : Image)
    → IsSoundAs depot image → found_in image ≡ Ok depot

abbrev pub HoldsOneDepot : Type 0
HoldsOneDepot = (depot other : DepotOf) (image : Image)
    → IsSoundAs depot image → IsSoundAs other image → other ≡ depot

abbrev pub FindsSound : Type 0
FindsSound = (depot : DepotOf) (image : Image) (found : Found)
    → IsSoundAs depot image → IsFoundIn image found → HoldsSound depot found
