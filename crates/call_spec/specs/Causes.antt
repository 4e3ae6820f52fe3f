-- What stands behind a status of a call.
use Rattle.std.specs.Prelude.{ℕ, List, Option, Err, slice_get}
use Rattle.arrival_spec.specs.declared.event.Scripted.{Scripted}
use Rattle.config_spec.specs.declared.conf.Conf.{Conf}
use Rattle.config_spec.specs.declared.fault.ConfFault.{ConfFault}
use Rattle.element_spec.specs.declared.fault.TableFault.{TableFault}
use Rattle.text_spec.specs.declared.element.Element.{Element}
use Rattle.run_spec.specs.Work.{Item}
use Rattle.result_spec.specs.Result.{ComeTo, ExceedsFor}
use Rattle.site_io.specs.Outside.{Rose}
use Rattle.site_io.specs.Seen.{Seen, TextSeen}
use Rattle.call_spec.specs.Came.{RunCame}
use Rattle.call_spec.specs.Came.Refusal.{BadDescription, BadElements}
use Rattle.call_spec.specs.Plan.Plan.{Described}
use Rattle.call_spec.specs.Texts.{Judges}
use Rattle.call_spec.specs.Leaves.{RunLeaves, given_of}
use Rattle.call_spec.specs.Call.{IsPlanOf}

-- no count of faults rose
pub record IsCalm (old new : Seen) : Type 0 where
  pub texts : (p : List ℕ) → Rose (old.text p).faults (new.text p).faults → ⊥
  pub places : (p : List ℕ) → Rose (old.place p).faults (new.place p).faults → ⊥
  pub sinks : (p : List ℕ) → Rose (old.sink p).faults (new.sink p).faults → ⊥
  pub say : Rose old.say.faults new.say.faults → ⊥

-- neither the description nor one of its element tables has a fault
pub record IsAccepted (text : List ℕ → TextSeen) (file : List ℕ) : Type 0 where
  pub description : (fault : ConfFault) → Judges text file (Err (BadDescription fault)) → ⊥
  pub elements : (name : List ℕ) (fault : TableFault) → Judges text file (Err (BadElements name fault)) → ⊥

-- In a run that came of the description more definitions came to an output of IPFIX Files than it has Template IDs for.
pub record RunsOutOfIds {S : Type 0} (left : S → Option (List Scripted)) (faults : S → ℕ) (file : List ℕ) (old new : Seen) : Type 0 where
  pub conf : Conf
  pub rows : List Element
  pub run : RunCame
  pub plan : IsPlanOf old.text file (Described conf rows)
  pub leaves : RunLeaves left faults (Described conf rows) run old new
  pub output : ℕ
  pub items : List Item
  pub come : ComeTo conf (given_of run) run.order output items
  pub exceeds : ExceedsFor (slice_get conf.outputs output) items
