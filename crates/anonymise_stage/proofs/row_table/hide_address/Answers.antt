use Rattle.std.proofs.Common.{◌∙◌, ap}
use Rattle.act_spec.specs.Bits.{in_place}
use Rattle.anonymise_stage.proofs.TableLemmas.{hidden_some, hidden_none}
use Rattle.anonymise_stage.proofs.row_table.hide_address.Goals as goal

pub returns-in-Some : goal.returns-in-Some
returns-in-Some c =
    let best = c.in-Some.best.now in
    let value = c.args.value.now in
    c.put_bits.ensures
    ∙ (ap (λ to. in_place best.row.from.bits to value) c.as_slice.ensures ∙ hidden_some c.args.bits c.args.rows.now value best c.octets_are_small.ensures c.in-Some.ensures.is)

pub returns-in-None : goal.returns-in-None
returns-in-None c = c.keep_bits.ensures ∙ hidden_none c.args.bits c.args.rows.now c.args.value.now c.octets_are_small.ensures c.in-None.ensures.is
