-- The least of some marks: by those that are open or complete, over joined lists, and over
-- partitions in any order and number.
use Rattle.std.proofs.Common.{◌≡◌, ◌∙◌, ℕ, ◌+◌, ◌<◌, List, ◌∷◌, [], ◌++◌, length, map, take}
use Rattle.std.proofs.Common.{get_or, refl, sym, ap}
use Rattle.std.specs.Prelude.{All, Bool, true, false, ◌&&◌, nat_le, if◌then◌else◌}
use Rattle.std.specs.List.{list_all}
use Rattle.std.proofs.lemmas.Bool.{false≢true}
use Rattle.std.proofs.lemmas.Bool.Decides.{same_from_decides}
use Rattle.std.proofs.lemmas.List.{take_more}
use Rattle.std.proofs.lemmas.List.Folds.{list_all-append, list_all_at}
use Rattle.std.proofs.lemmas.List.Sums.{AllPass-from_list_all, list_all-from_AllPass}
use Rattle.desc_types.specs.declared.table.Key.{Key}
use Rattle.view_meaning.specs.declared.request.Mark.{Mark}
use Rattle.view_meaning.specs.declared.request.Mark.TheVariants as mark
use Rattle.view_meaning.specs.Marks.{least, lower}
use Rattle.view_meaning.specs.Partitions.{is_among}
use Rattle.view_meaning.specs.Ranks.{rank_of}
use Rattle.view_meaning.proofs.AmongLemmas.{All-is_among}
use Rattle.view_meaning.proofs.MarkLemmas.{nat_le-fold_lower}
use Rattle.depot_marks.specs.declared.run.Run.{Run}
use Rattle.depot_marks.specs.Runs.{keys_in, keys_of_run}
use Rattle.depot_marks.proofs.KeyLemmas.{is_among-each}
use Rattle.depot_marks.proofs.RunLemmas.{keys_in-push}

-- what passes a test in one list passes it in another with no other keys
list_all-among : (test : Key → Bool) (keys others : List Key)
    → ((key : Key) → is_among others key ≡ is_among keys key)
    → list_all test keys ≡ true → list_all test others ≡ true
list_all-among test keys others same all =
    list_all-from_AllPass test others (λ index default within.
    let key = get_or others index default in
    All-is_among (λ key. test key ≡ true) keys key (AllPass-from_list_all test keys all)
    (sym (same key) ∙ is_among-each others index default within))

-- two marks that are at least the same ranks are the same
Mark-same : (first second : Mark)
    → ((rank : ℕ) → nat_le rank (rank_of first) ≡ nat_le rank (rank_of second)) → first ≡ second
Mark-same mark.Open mark.Open same = refl
Mark-same mark.Open mark.Closed same = absurd (false≢true (same 1))
Mark-same mark.Open mark.Complete same = absurd (false≢true (same 1))
Mark-same mark.Closed mark.Open same = absurd (false≢true (sym (same 1)))
Mark-same mark.Closed mark.Closed same = refl
Mark-same mark.Closed mark.Complete same = absurd (false≢true (same 2))
Mark-same mark.Complete mark.Open same = absurd (false≢true (sym (same 1)))
Mark-same mark.Complete mark.Closed same = absurd (false≢true (sym (same 2)))
Mark-same mark.Complete mark.Complete same = refl

-- a mark goes at least as far as closed, or is open
Mark-open : (given : Mark) → nat_le 1 (rank_of given) ≡ false → given ≡ mark.Open
Mark-open mark.Open short = refl
Mark-open mark.Closed short = absurd (false≢true (sym short))
Mark-open mark.Complete short = absurd (false≢true (sym short))

-- one that does is complete or closed
Mark-closed : (given : Mark) → nat_le 1 (rank_of given) ≡ true
    → given ≡ (if nat_le 2 (rank_of given) then mark.Complete else mark.Closed)
Mark-closed mark.Open far = absurd (false≢true far)
Mark-closed mark.Closed far = refl
Mark-closed mark.Complete far = refl

-- if one is open, so is the least
pub least-open : (its : Key → Mark) (keys : List Key) (index : ℕ) (default : Key)
    → index < length keys → its (get_or keys index default) ≡ mark.Open
    → least (map its keys) ≡ mark.Open
least-open its keys index default within is =
    Mark-open (least (map its keys))
    (nat_le-fold_lower its 1 mark.Complete keys
    ∙ list_all_at (λ key. nat_le 1 (rank_of (its key))) keys index default within
    (ap (λ (given : Mark). nat_le 1 (rank_of given)) is))

-- if none is, it is complete exactly if all are
pub least-closed : (its : Key → Mark) (keys : List Key)
    → All (λ key. nat_le 1 (rank_of (its key)) ≡ true) keys
    → least (map its keys) ≡ (if list_all (λ key. nat_le 2 (rank_of (its key))) keys
    then mark.Complete else mark.Closed)
least-closed its keys closed =
    Mark-closed (least (map its keys))
    (nat_le-fold_lower its 1 mark.Complete keys
    ∙ list_all-from_AllPass (λ key. nat_le 1 (rank_of (its key))) keys closed)
    ∙ ap (λ (complete : Bool). if complete then mark.Complete else mark.Closed)
    (nat_le-fold_lower its 2 mark.Complete keys)

-- a fact beside two others stands beside each
and-twice : (known first second : Bool) → (known && (first && second))
    ≡ ((known && first) && ((known && second) && true))
and-twice true true true = refl
and-twice true true false = refl
and-twice true false second = refl
and-twice false first second = refl

-- the least of joined lists is the lower one of the least of each
least-append : (its : Key → Mark) (keys others : List Key)
    → least (map its (keys ++ others)) ≡ lower (least (map its keys)) (least (map its others))
least-append its keys others =
    let first = least (map its keys) in
    let second = least (map its others) in
    Mark-same (least (map its (keys ++ others))) (lower first second) (λ rank.
    let far : Key → Bool = λ key. nat_le rank (rank_of (its key)) in
    nat_le-fold_lower its rank mark.Complete (keys ++ others)
    ∙ ap (λ (all : Bool). nat_le rank 2 && all) (list_all-append far keys others)
    ∙ and-twice (nat_le rank 2) (list_all far keys) (list_all far others)
    ∙ ap (λ (all : Bool). all && ((nat_le rank 2 && list_all far others) && true))
    (sym (nat_le-fold_lower its rank mark.Complete keys))
    ∙ ap (λ (all : Bool). nat_le rank (rank_of first) && (all && true))
    (sym (nat_le-fold_lower its rank mark.Complete others))
    ∙ sym (nat_le-fold_lower (λ (given : Mark). given) rank first (second ∷ [])))

-- the least of one is that one
pub least-one : (given : Mark) → least (given ∷ []) ≡ given
least-one mark.Open = refl
least-one mark.Closed = refl
least-one mark.Complete = refl

-- the least over one run more is the lower one of it and the least before
pub least-take : (its : Key → Mark) (runs : List Run) (index : ℕ) (default : Run)
    → index < length runs
    → least (map its (keys_in (take (index + 1) runs)))
    ≡ lower (least (map its (keys_in (take index runs))))
    (least (map its (keys_of_run (get_or runs index default))))
least-take its runs index default within =
    let before = take index runs in
    let last = get_or runs index default in
    ap (λ runs. least (map its (keys_in runs))) (take_more runs index default within)
    ∙ ap (λ keys. least (map its keys)) (keys_in-push before last)
    ∙ least-append its (keys_in before) (keys_of_run last)

-- the least mark over two lists with the same keys is the same
pub least-same : (its : Key → Mark) (keys others : List Key)
    → ((key : Key) → is_among keys key ≡ is_among others key)
    → least (map its keys) ≡ least (map its others)
least-same its keys others same =
    Mark-same (least (map its keys)) (least (map its others)) (λ rank.
    let test : Key → Bool = λ key. nat_le rank (rank_of (its key)) in
    nat_le-fold_lower its rank mark.Complete keys
    ∙ ap (λ (all : Bool). nat_le rank 2 && all)
    (same_from_decides (list_all test keys) (list_all test others)
    (list_all-among test keys others (λ key. sym (same key)), list_all-among test others keys same)
    (λ all. all, λ all. all))
    ∙ sym (nat_le-fold_lower its rank mark.Complete others))
