use Rattle.std.proofs.Common.{List, ℕ, Err, refl, subst, ◌∙◌}
use Rattle.described_texts.specs.Read.{AddsFile}
use Rattle.described_texts.proofs.ReadLemmas.{files_first, files_further, files_refused}
use Rattle.described_texts.proofs.read.read_elements.Goals as goal

pub loop-name-init : goal.loop-name-init
loop-name-init g c = record { table = files_first (g.S.Site.seen c.args.site.now).text c.in-Ok.table c.in-Ok.ensures; texts = refl; rest = record { places = refl; sinks = refl; say = refl } }

pub loop-name-preserved : goal.loop-name-preserved
loop-name-preserved g c =
    let added = c.in_default-add_file.ensures in
    let so = c.loop-name.invariant in
    record {
      table = files_further _ _ c.args.names.now c.loop-name.name-index c.name-item.result c.loop-name.table c.add_file.new.table c.loop-name-test.true c.name-item.is so.texts so.table (rw c.as_str.ensures at added.adds);
      texts = added.texts ∙ so.texts;
      rest = record { places = added.rest.places ∙ so.rest.places; sinks = added.rest.sinks ∙ so.rest.sinks; say = added.rest.say ∙ so.rest.say };
    }

pub returns-in-Err-clause-err : goal.returns-in-Err-clause-err
returns-in-Err-clause-err g c =
    let so = c.loop-name.invariant in
    files_refused _ _ c.args.names.now c.loop-name.name-index c.name-item.result c.loop-name.table c.add_file.new.table c.in-Err.refusal c.loop-name-test.true c.name-item.is so.texts so.table
    (subst (λ (n : List ℕ). AddsFile (g.S.Site.seen c.loop-name.site).text n c.loop-name.table c.add_file.new.table (Err c.in-Err.refusal)) c.as_str.ensures c.in-Err.ensures.adds)
