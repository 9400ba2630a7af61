-- The line of a feed declares the feed again: `with_written-feed`.
use Rattle.std.proofs.Common.{◌≡◌, ◌∙◌, ℕ, ◌+◌, List, [], ◌∷◌, Some, None, Bool, true, Ok}
use Rattle.std.proofs.Common.{not, length, map, take, refl, ap, arith}
use Rattle.std.specs.Prelude.{is_some, slice_get}
use Rattle.std.proofs.lemmas.Bool.{lt-leb}
use Rattle.std.proofs.lemmas.List.{length-take}
use Rattle.std.proofs.lemmas.Option.{slice_get-map, slice_get_within}
use Rattle.desc_lines.specs.Names.{is_name}
use Rattle.desc_types.specs.declared.table.Feed.{Feed}
use Rattle.desc_types.specs.Accepted.{IsAccepted}
use Rattle.desc_types.specs.Descriptions.{DescOf}
use Rattle.desc_causes.specs.declared.cause.DescCause.{DescCause}
use Rattle.desc_causes.specs.Causes.{cause_of, feed_tests, first_cause}
use Rattle.table_desc.specs.Canonical.{feed_line}
use Rattle.table_desc.specs.Described.{unless_bad, with_written}
use Rattle.table_desc.proofs.FineLemmas.{AreFalse}
use Rattle.table_desc.proofs.KeptLemmas.{All-there}
use Rattle.table_desc.proofs.PrefixLemmas.{find_feed-next, prefix}
use Rattle.table_desc.proofs.SameTableLemmas.{with_feed-prefix}

-- where no test holds, none speaks
pub first_cause-false : (tests : List (Bool × DescCause)) → AreFalse tests
    → first_cause tests ≡ None
first_cause-false [] none = refl
first_cause-false ((test, cause) ∷ others) none = rw none.0 (first_cause-false others none.1)

-- the line of a feed is not bad, behind the feeds before it
cause_of-feed : (desc : DescOf) (number tables : ℕ) (feed : Feed) → IsAccepted desc
    → slice_get desc.feeds number ≡ Some feed
    → cause_of (prefix desc number tables) (feed_line feed) ≡ None
cause_of-feed desc number tables feed accepted there =
    let named = All-there (λ name. is_name name ≡ true)
    (map (λ (feed : Feed). feed.name) desc.feeds) number feed.name accepted.feed_names.each
    (rw (slice_get-map (λ (feed : Feed). feed.name) desc.feeds number, there) refl) in
    let within = slice_get_within desc.feeds number feed there in
    let few = lt-leb 16 (length (take number desc.feeds))
    (omega (arith, length-take number desc.feeds, within, accepted.feeds)) in
    first_cause-false (feed_tests (prefix desc number tables) feed.name) (
      ap not named,
      (ap is_some (find_feed-next desc tables number feed accepted there), (few, tt)),
    )

-- so it declares the feed
pub with_written-feed : (desc : DescOf) (number tables : ℕ) (feed : Feed) → IsAccepted desc
    → slice_get desc.feeds number ≡ Some feed
    → with_written (prefix desc number tables) (Some (feed_line feed))
    ≡ Ok (prefix desc (number + 1) tables)
with_written-feed desc number tables feed accepted there =
    ap (unless_bad (prefix desc number tables) (feed_line feed))
    (cause_of-feed desc number tables feed accepted there)
    ∙ ap Ok (with_feed-prefix desc number tables feed there)
