use Rattle.std.proofs.Common.{◌≡◌, ◌≢◌, ◌++◌, ◌∷◌, [], ℕ, List, cond, length, map, rules, refl, ap, sym, subst, ◌∙◌}
use Rattle.std.specs.List.{list_any}
use Rattle.pipeline_message.specs.declared.message.DataSet.{DataSet}
use Rattle.stage_chain.specs.Behind.{changes}
use Rattle.message_stages.specs.Sets.{AreSetsLeft, moved}
use Rattle.message_stages.proofs.SetLemmas.{set_left}
use Rattle.message_stages.proofs.set.put_left.Goals as goal

pub returns : goal.returns
returns c = λ octets before put a.
    (let works = c.args.stages.now in
    let s = c.args.set.now in
    let copies = c.args.copies.now.items in
    let places = c.args.left.now.places.items in
    let own = c.args.left.now.octets.items in
    let t : DataSet = record { def = c.in_ok-clone.field-0; template = s.template; places = c.in_ok-places.places } in
    let some : places ≢ [] = λ e. (let n : length places ≡ 0 = ap length e in search rules) in
    let start : c.in-Ok.start ≡ length copies = search rules in
    let at : c.in_ok-places.places.items ≡ map (moved (length copies)) places = c.in_ok-places.ensures ∙ (ap (λ (n : ℕ). map (moved n) c.places-2.result.now) start ∙ ap (map (moved (length copies))) c.places-2.ensures) in
    let longer : c.extend_from_slice.new.self.items ≡ copies ++ cond (list_any changes works) own [] = c.in_ok-extend_from_slice.ensures.items ∙ ap (λ (l : List ℕ). copies ++ l) c.octets.ensures in
    let def : c.in_ok-clone.field-0.value ≡ s.def.value = search rules in
    subst (AreSetsLeft works octets (before ++ s ∷ []) c.extend_from_slice.new.self.items) (sym c.in_ok-push.ensures.items)
    (set_left works octets before copies c.extend_from_slice.new.self.items c.args.sets.now.items s t own places some put a def refl at longer))
