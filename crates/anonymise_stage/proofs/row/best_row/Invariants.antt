use Rattle.std.proofs.Common.{◌≡◌, drop, length}
use Rattle.std.specs.Prelude.{fold, IfSome}
use Rattle.std.specs.List.{AllByRecursion}
use Rattle.std.specs.Option.{option_copied}
use Rattle.config_spec.specs.Form.{IsAnonRow}
use Rattle.act_spec.specs.Anonymise.{better_of, best_row}
use Rattle.anonymise_stage.proofs.row.best_row.Given as goal

abbrev pub invariant-loop-row : goal.invariant-loop-row
invariant-loop-row l = record {
  left : fold (better_of l.value) (option_copied l.found) (drop l.row-index l.rows) ≡ best_row l.rows l.value;
  fits : IfSome l.found (λ row. length row.now.to ≡ length l.value);
  rows : AllByRecursion IsAnonRow (drop l.row-index l.rows);
}
