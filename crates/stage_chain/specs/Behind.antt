-- Records behind all intermediates, one after another.
use Rattle.std.specs.Prelude.{ℕ, ◌≡◌, Bool, true, false, List, map, filter, fold}
use Rattle.std.specs.List.{AllByRecursion}
use Rattle.wire_spec.specs.Content.{Definition}
use Rattle.config_spec.specs.declared.conf.StageConf.{StageConf}
use Rattle.config_spec.specs.declared.conf.StageWork.{StageWork}
use Rattle.config_spec.specs.declared.conf.StageWork.TheVariants.{Filter, Anonymise}
use Rattle.file_spec.specs.File.{has_records}
use Rattle.run_spec.specs.Records.{Record}
use Rattle.run_spec.specs.Outcome.{DecodedSet}
use Rattle.result_spec.specs.Through.{records_through}
use Rattle.pipeline_message.specs.declared.message.Place.{Place}
use Rattle.pipeline_message.specs.Items.{IsRecordAt, record_at}

-- an intermediate that changes records
abbrev pub changes : StageWork → Bool
changes (Filter table) = false
changes (Anonymise table) = true

abbrev pub works_of : List StageConf → List StageWork
works_of stages = map (λ (s : StageConf). s.work) stages

abbrev pub records_behind : List StageWork → Definition → List Record → List Record
records_behind works def records = fold (λ now work. records_through work def now) records works

abbrev pub set_behind : List StageWork → DecodedSet → DecodedSet
set_behind works d = record { id = d.id; definition = d.definition; records = records_behind works d.definition d.records }

-- sets of which nothing is left go
abbrev pub sets_behind : List StageWork → List DecodedSet → List DecodedSet
sets_behind works sets = filter has_records (map (set_behind works) sets)

-- Of the records at these places of the octets of a message those are left that stand at these places of these octets.
pub record AreLeft (works : List StageWork) (def : Definition) (octets : List ℕ) (places : List Place) (now : List ℕ) (left : List Place) : Type 0 where
  pub are : map (record_at def.fields now) left ≡ records_behind works def (map (record_at def.fields octets) places)
  pub sound : AllByRecursion (IsRecordAt def.fields now) left
