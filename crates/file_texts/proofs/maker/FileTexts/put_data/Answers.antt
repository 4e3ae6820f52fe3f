use Rattle.std.proofs.Common.{◌≡◌, ◌++◌, ◌∷◌, [], List, Some, refl, sym, subst}
use Rattle.std.specs.Prelude.{find, nat_lt}
use Rattle.run_spec.specs.Work.{Item}
use Rattle.file_spec.specs.File.{needed_by}
use Rattle.pipeline_message.specs.Items.{data_of}
use Rattle.file_output.specs.declared.placed.PlacedSet.{PlacedSet}
use Rattle.file_output.specs.Fault.{AtLimit}
use Rattle.file_output.specs.Placed.{IsPlacedItem}
use Rattle.file_output.specs.Stands.{StandsFor}
use Rattle.file_texts.proofs.TextLemmas.{data_comes, data_needs_more}
use Rattle.file_texts.proofs.maker.FileTexts.put_data.Goals as goal

pub returns-in-Ok-clause-ok : goal.returns-in-Ok-clause-ok
returns-in-Ok-clause-ok c =
    let m = c.args.message.now in
    let is : IsPlacedItem m.domain m.export c.deref.result.now (data_of m) = subst (λ (l : List PlacedSet). IsPlacedItem m.domain m.export l (data_of m)) (sym c.deref.ensures.value) (refl, refl, c.in-Some.ensures.each) in
    data_comes m c.args.self.now c.requires.comes (record { alloc = c.args.self.now.alloc; domains = c.args.self.now.domains; numbering = c.put_placed.new.self; text = c.put_placed.new.out }) c.requires.empty refl c.in-Ok.ensures.last
    (λ items kept. c.in-Ok.ensures.ok items (data_of m) kept is)

pub returns-in-Err-Limit-clause-limit : goal.returns-in-Err-Limit-clause-limit
returns-in-Err-Limit-clause-limit c =
    let m = c.args.message.now in
    let old = c.args.self.now in
    let is : IsPlacedItem m.domain m.export c.deref.result.now (data_of m) = subst (λ (l : List PlacedSet). IsPlacedItem m.domain m.export l (data_of m)) (sym c.deref.ensures.value) (refl, refl, c.in-Some.ensures.each) in
    let over : AtLimit (λ n. (items : List Item) (item : Item) → StandsFor items old.numbering → IsPlacedItem m.domain m.export c.deref.result.now item → find (nat_lt old.numbering.last) (needed_by (items ++ item ∷ []) item) ≡ Some n) c.in-Err-Limit.field-0 = rw c.in-Err-Limit.is at c.put_placed.ensures.limit in
    data_needs_more m old c.requires.comes c.in-Err-Limit.field-0-0 (λ items kept. (rw c.in-Err-Limit.field-0-is at over) items (data_of m) kept is)
