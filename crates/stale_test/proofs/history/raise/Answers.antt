-- The history of one more is changed. One that was changed by this entry stays.
use Rattle.std.proofs.Common.{get_or, take}
use Rattle.desc_types.specs.declared.table.Key.{Key}
use Rattle.view_meaning.specs.Partitions.{is_among}
use Rattle.stale_test.specs.Histories.{history_in, no_history, raised}
use Rattle.stale_test.proofs.HistoryLemmas.{raised-enough, raised-twice}
use Rattle.stale_test.proofs.PlaceLemmas.{ChangesEach-take}
use Rattle.stale_test.proofs.history.raise.Goals as goal

pub raised-requires : goal.raised-requires
raised-requires c =
    let index = c.loop-key.key-index in
    let key : Key = get_or c.args.keys.now index (record { table = 0; part = 0 }) in
    let was = history_in c.args.parts.now.entries key in
    rw (c.value_of-history.ensures.exact, c.none.ensures.exact, c.loop-key.invariant.values key)
    record {
      few = raised-enough c.args.entry was (is_among (take index c.args.keys.now) key)
          (c.requires.before key);
    }

pub put-requires : goal.put-requires
put-requires c = record {
  place = c.loop-key.invariant.places
      (get_or c.args.keys.now c.loop-key.key-index (record { table = 0; part = 0 }))
      (c.requires.places c.loop-key.key-index (record { table = 0; part = 0 })
      c.loop-key-test.true);
}

pub loop-key-preserved : goal.loop-key-preserved
loop-key-preserved c =
    ChangesEach-take (raised c.args.entry) no_history c.args.parts.now.entries
    c.loop-key.parts.entries c.put.new.map.entries c.args.keys.now c.loop-key.key-index
    (record { table = 0; part = 0 }) c.loop-key-test.true (raised-twice c.args.entry)
    c.loop-key.invariant
    (rw (c.raised.ensures.exact, c.value_of-history.ensures.exact, c.none.ensures.exact)
    at c.put.ensures.exact)
