use Rattle.std.proofs.Common.{◌≡◌, take}
use Rattle.call_spec.specs.Texts.{HasTable}
use Rattle.described_texts.specs.Read.{KeepsRest}
use Rattle.described_texts.proofs.read.read_elements.Given as goal

abbrev pub invariant-loop-name : goal.invariant-loop-name
invariant-loop-name g l = record {
  table : HasTable (g.S.Site.seen l.initial.site).text (take l.name-index l.names) l.table;
  texts : (g.S.Site.seen l.site).text ≡ (g.S.Site.seen l.initial.site).text;
  rest : KeepsRest (g.S.Site.seen l.initial.site) (g.S.Site.seen l.site);
}
