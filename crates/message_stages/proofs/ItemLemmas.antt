-- Items behind all intermediates.
use Rattle.std.proofs.Common.{◌≡◌, ◌≢◌, ℕ, Bool, true, not, List, [], ◌∷◌, ◌++◌, length, map, refl, ap, ◌∙◌, arith}
use Rattle.std.specs.Prelude.{◌==◌}
use Rattle.std.specs.List.{AllByRecursion}
use Rattle.std.proofs.lemmas.List.{map-append}
use Rattle.col_base.specs.declared.base.SessionKey.{SessionKey}
use Rattle.col_base.specs.declared.base.Transport.{Transport}
use Rattle.config_spec.specs.declared.conf.StageConf.{StageConf}
use Rattle.file_spec.specs.File.{has_records}
use Rattle.run_spec.specs.Work.{Item}
use Rattle.run_spec.specs.Work.Item.{Note, Tick}
use Rattle.result_spec.specs.Through.{item_through, items_through}
use Rattle.pipeline_message.specs.declared.message.Place.{Place}
use Rattle.pipeline_message.specs.declared.message.DataSet.{DataSet}
use Rattle.pipeline_message.specs.Items.{record_at, set_of, IsSoundSet}
use Rattle.stage_chain.proofs.BehindLemmas.{not_zero}

pub items_more : (stages : List StageConf) (items more : List Item) → items_through stages (items ++ more) ≡ items_through stages items ++ items_through stages more
items_more [] items more = refl
items_more (stage ∷ stages) items more =
    ap (items_through stages) (map-append (item_through stage.work) items more) ∙ items_more stages (map (item_through stage.work) items) (map (item_through stage.work) more)

pub none_stays : (stages : List StageConf) → items_through stages [] ≡ []
none_stays [] = refl
none_stays (s ∷ stages) = none_stays stages

pub note_stays : (stages : List StageConf) (key : SessionKey) (transport : Transport) (opened : Bool) → items_through stages (Note key transport opened ∷ []) ≡ Note key transport opened ∷ []
note_stays [] key transport opened = refl
note_stays (s ∷ stages) key transport opened = note_stays stages key transport opened

pub tick_stays : (stages : List StageConf) (input seconds : ℕ) → items_through stages (Tick input seconds ∷ []) ≡ Tick input seconds ∷ []
tick_stays [] input seconds = refl
tick_stays (s ∷ stages) input seconds = tick_stays stages input seconds

-- a set with a place has a record
pub filled : (octets : List ℕ) (s : DataSet) → s.places.items ≢ [] → has_records (set_of octets s) ≡ true
filled octets s some = by_list s.places.items some
  where
    by_list : (places : List Place) → places ≢ [] → not (length (map (record_at s.def.value.fields octets) places) == 0) ≡ true
    by_list [] some = absurd (some refl)
    by_list (p ∷ places) some = not_zero (length (map (record_at s.def.value.fields octets) (p ∷ places))) (λ e. omega arith)

pub all_filled : (octets : List ℕ) (sets : List DataSet) → AllByRecursion (IsSoundSet octets) sets → AllByRecursion (λ d. has_records d ≡ true) (map (set_of octets) sets)
all_filled octets [] sound = tt
all_filled octets (s ∷ sets) sound = (filled octets s sound.0.0, all_filled octets sets sound.1)
