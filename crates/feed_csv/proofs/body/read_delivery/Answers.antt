use Rattle.std.proofs.Common.{◌∙◌, ℕ, Bor, List, Some, ap, sym, inr}
use Rattle.csv.specs.Reading.{strip_bom}
use Rattle.feed_csv.proofs.body.read_delivery.Goals as goal

pub read_records-requires : goal.read_records-requires
read_records-requires c =
    let made = c.from_reader-reader.ensures in
    let plain = rw (c.flexible.ensures, c.has_headers.ensures) at made.trim in
    let headless = rw (c.flexible.ensures, c.has_headers.ensures) at made.has_headers in
    let config = rw (c.flexible.ensures, c.has_headers.ensures) at made.config in
    record {
      start = record {
        plain = plain ∙ c.new.ensures.trim;
        ready = inr (inr (headless, made.headers));
        config = config ∙ c.new.ensures.config;
        state = made.state;
        source = made.source
            ∙ ap (λ (text : Bor (List ℕ)). Some (strip_bom text.now)) (sym made.rdr);
      };
      few = rw made.rdr c.requires.few;
    }
