use Rattle.std.proofs.Common.{sym}
use Rattle.std.proofs.lemmas.Str.{is_utf8-from_IsUtf8, IsUtf8-from_ascii, IsUtf8-from_is_utf8}
use Rattle.std.proofs.lemmas.Bool.{false_from_ne_true}
use Rattle.depot_cell.proofs.reading.is_text.Goals as goal

pub returns-then-is_ascii : goal.returns-then-is_ascii
returns-then-is_ascii c = record {
  exact = sym (is_utf8-from_IsUtf8 _ (IsUtf8-from_ascii _ c.if-is_ascii.ensures.cases));
}

pub returns-in-Ok : goal.returns-in-Ok
returns-in-Ok c = record { exact = sym (is_utf8-from_IsUtf8 _ c.in-Ok.ensures.cases.1) }

pub returns-in-Err : goal.returns-in-Err
returns-in-Err c = record {
  exact = sym (false_from_ne_true _ (λ t. c.in-Err.ensures.cases.0 (IsUtf8-from_is_utf8 _ t)));
}
