-- The replies to items, and to one item more.
use Rattle.std.proofs.Common.{◌≡◌, ℕ, ◌+◌, List, [], ◌∷◌, ◌++◌, length, sym, ap, ◌∙◌, arith}
use Rattle.std.proofs.Common.{append_assoc, append-nil}
use Rattle.desc_types.specs.Descriptions.{DescOf}
use Rattle.depot_cli.specs.declared.script.work.Work.{Work}
use Rattle.depot_cli.specs.SerialJournal.{Made, after, made_by, nothing}
use Rattle.depot_cli.specs.Replies.{replies, reply}

-- the replies to items are those to the first of them and then those to the others, after what the
-- first made
pub replies-append : (desc : DescOf) (line : ℕ) (made : Made) (items others : List Work)
    → replies desc line made (items ++ others)
    ≡ replies desc line made items
    ++ replies desc (line + length items) (made_by desc made items) others
replies-append desc line made [] others =
    ap (λ (line : ℕ). replies desc line made others) (omega arith)
replies-append desc line made (item ∷ items) others =
    ap (λ (more : List ℕ). reply desc line made item ++ more)
    (replies-append desc (line + 1) (after desc made item) items others)
    ∙ sym (append_assoc (reply desc line made item) between
    (replies desc (line + 1 + length items)
    (made_by desc (after desc made item) items) others))
    ∙ ap (λ (line : ℕ). (first ++ between)
    ++ replies desc line (made_by desc (after desc made item) items) others) (omega arith)
  where
    first : List ℕ
    first = reply desc line made item

    between : List ℕ
    between = replies desc (line + 1) (after desc made item) items

-- one reply more
pub replies-push : (desc : DescOf) (items : List Work) (work : Work)
    → replies desc 1 nothing (items ++ work ∷ [])
    ≡ replies desc 1 nothing items ++ reply desc (1 + length items) (made_by desc nothing items) work
replies-push desc items work =
    replies-append desc 1 nothing items (work ∷ [])
    ∙ ap (λ (last : List ℕ). replies desc 1 nothing items ++ last)
    (append-nil (reply desc (1 + length items) (made_by desc nothing items) work))
