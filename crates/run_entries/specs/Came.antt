-- What came of the inputs of a run, and of all that they handed on.
use Rattle.std.specs.Prelude.{ℕ, ◌≡◌, true, nat_lt, List, [], Option, Some, None, is_some, length, map}
use Rattle.std.specs.List.{list_all}
use Rattle.arrival_spec.specs.declared.event.Scripted.{Scripted}
use Rattle.run_spec.specs.Read.{ReadArrival}
use Rattle.run_spec.specs.Judge.{Inputs}
use Rattle.run_spec.specs.Work.{items_of}
use Rattle.call_spec.specs.Pairs.{Each}
use Rattle.call_spec.specs.declared.end.InputEnd.{InputEnd}
use Rattle.call_spec.specs.declared.end.InputEnd.TheVariants as end
use Rattle.config_spec.specs.declared.conf.Conf.{Conf}
use Rattle.result_spec.specs.Result.{inputs_of}
use Rattle.call_spec.specs.Came.{InputCame, RunCame}
use Rattle.parser_lane.specs.Parsers.{inputs}
use Rattle.run_input.specs.declared.input.Input.{Input}
use Rattle.run_input.specs.Inputs.{HasGiven}
use Rattle.logged_outputs.specs.Entries.{AreKnown, Entry, own}

-- how an input ended: that of a run has
abbrev pub end_or : Option InputEnd → InputEnd
end_or None = end.Memory
end_or (Some e) = e

module _ {S : Type 0} (left : S → Option (List Scripted)) (faults : S → ℕ) where
  -- what came of an input whose source gave these events
  abbrev pub came_of : Input S → List Scripted → InputCame
  came_of x given = record { given = given; end = end_or x.end; failed = nat_lt 0 (faults x.inlet.source) }

  -- an input of a run gave these events, since its source was so, and its entries are the items of the arrivals that it
  -- worked off
  pub record InputCameTo (all : Inputs) (entries : List Entry) (k : ℕ) (pair : S × InputCame) (x : Input S) : Type 0 where
    pub read : List ReadArrival
    pub has : HasGiven left faults pair.0 (all k) k pair.1.given read x
    pub items : own k entries ≡ items_of (inputs (all k)) read
    pub is : pair.1 ≡ came_of x pair.1.given

  -- the inputs of a run have ended, and these are their entries
  pub record AreEntriesOf (conf : Conf) (run : RunCame) (entries : List Entry) (xs : List (Input S)) : Type 0 where
    pub firsts : List (S × InputCame)
    pub each : Each (InputCameTo (inputs_of conf) entries) 0 firsts xs
    pub came : run.inputs ≡ map (λ (p : S × InputCame). p.1) firsts
    pub known : AreKnown (length xs) entries
    pub ended : list_all (λ (x : Input S). is_some x.end) xs ≡ true
