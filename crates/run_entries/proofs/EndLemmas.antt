-- How the inputs of a run began, and how they ended.
use Rattle.std.proofs.Common.{◌≡◌, inl, inr, ℕ, ◌<◌, true, List, [], Option, Some, None, length, map, refl, ap, sym, subst, ◌∙◌, arith}
use Rattle.std.specs.Prelude.{is_some, nat_lt}
use Rattle.std.specs.List.{list_all}
use Rattle.std.proofs.lemmas.Bool.{lt-ltb}
use Rattle.arrival_spec.specs.declared.event.Scripted.{Scripted}
use Rattle.config_spec.specs.declared.conf.Conf.{Conf}
use Rattle.run_spec.specs.Read.{ReadArrival}
use Rattle.run_spec.specs.Judge.{Inputs}
use Rattle.result_spec.specs.Result.{inputs_of}
use Rattle.call_spec.specs.Pairs.{Each}
use Rattle.call_spec.proofs.PairLemmas.{same_length, weaker}
use Rattle.call_spec.specs.Counts.{MovesBy}
use Rattle.call_spec.specs.declared.end.InputEnd.{InputEnd}
use Rattle.call_spec.specs.declared.end.InputEnd.TheVariants as end
use Rattle.call_spec.specs.Came.{InputCame, RunCame}
use Rattle.call_spec.specs.Ends.{EndsInput, IsWithin}
use Rattle.input_lane.specs.declared.state.Reading.{Reading}
use Rattle.input_lane.specs.declared.state.Reading.TheVariants as reading
use Rattle.run_input.specs.declared.input.Input.{Input}
use Rattle.run_input.specs.Inputs.{FailsBy, HasGiven, ReadsBy}
use Rattle.run_input.specs.Standing.{StandsBy}
use Rattle.logged_outputs.specs.Entries.{AreKnown, Entry}
use Rattle.input_turns.specs.Turns.{InputSoFar, SoFar}
use Rattle.run_entries.specs.Came.{AreEntriesOf, InputCameTo, end_or}
use Rattle.run_entries.proofs.CameLemmas.{all_came}

within : (limit : ℕ) (left now_left : Option (List Scripted)) (given : List Scripted) (how : Reading) → ReadsBy limit left now_left given how → IsWithin limit given
within limit left now_left given reading.Open (inl z) = inl z
within limit left now_left given reading.Open (inr lt) = inr (omega arith)
within limit left now_left given reading.Ended (inl h) = h.1
within limit left now_left given reading.Ended (inr full) = inr (omega arith)
within limit left now_left given reading.Failed (inl z) = inl z
within limit left now_left given reading.Failed (inr lt) = inr (omega arith)
within limit left now_left given reading.Wanting h = h

module _ {S : Type 0} (left : S → Option (List Scripted)) (faults : S → ℕ) where
  -- no input has handed on anything yet
  pub none_yet : (all : Inputs) (firsts : List S) (xs : List (Input S)) → Each (λ k first x. HasGiven left faults first (all k) k [] [] x) 0 firsts xs → SoFar left faults all [] firsts xs
  none_yet all firsts xs e = record {
    each = weaker (λ k first x. HasGiven left faults first (all k) k [] [] x) (InputSoFar left faults all []) 0 firsts xs (λ k first x lt h. record { given = []; read = []; has = h; items = refl }) e;
    known = tt;
  }

  -- inputs that have ended have entries
  pub entries_of_all : (conf : Conf) (entries : List Entry) (firsts : List S) (xs : List (Input S)) → SoFar left faults (inputs_of conf) entries firsts xs → list_all (λ (x : Input S). is_some x.end) xs ≡ true
      → (pairs : List (S × InputCame)) × (map (λ (p : S × InputCame). p.0) pairs ≡ firsts) × ((run : RunCame) → run.inputs ≡ map (λ (p : S × InputCame). p.1) pairs → AreEntriesOf left faults conf run entries xs)
  entries_of_all conf entries firsts xs s ended =
      let c = all_came left faults (inputs_of conf) entries 0 firsts xs s.each in
      let long : length firsts ≡ length xs = same_length (InputSoFar left faults (inputs_of conf) entries) 0 firsts xs s.each in (
        c.0,
        c.2,
        λ run is. record { firsts = c.0; each = c.1; came = is; known = subst (λ n. AreKnown n entries) long s.known; ended = ended },
      )

  ends_by : (all : Inputs) (k : ℕ) (first : S) (x : Input S) (given : List Scripted) (read : List ReadArrival) (o : Option InputEnd) → is_some o ≡ true → faults first ≡ 0 → ReadsBy (all k).stop_after (left first) (left x.inlet.source) given x.inlet.lane.reading
      → FailsBy x.inlet.lane.reading (faults first) (faults x.inlet.source) → StandsBy o (all k) k given read x.inlet.lane x.parser → EndsInput (all k).stop_after (left first) (left x.inlet.source) given (end_or o) (nat_lt 0 (faults x.inlet.source))
  ends_by all k first x given read None some fresh r f s = absurd cc
  ends_by all k first x given read (Some end.End) some fresh r f s =
      let same : faults x.inlet.source ≡ faults first = subst (λ (h : Reading). FailsBy h (faults first) (faults x.inlet.source)) s.1 f in
      (ap (nat_lt 0) (same ∙ fresh), subst (λ (h : Reading). ReadsBy (all k).stop_after (left first) (left x.inlet.source) given h) s.1 r)
  ends_by all k first x given read (Some end.Failed) some fresh r f s =
      let rose : MovesBy true (faults first) (faults x.inlet.source) = subst (λ (h : Reading). FailsBy h (faults first) (faults x.inlet.source)) s.1 f in
      let more : 0 < faults x.inlet.source = (let a = rose.1 in omega arith) in
      (lt-ltb 0 (faults x.inlet.source) more, subst (λ (h : Reading). ReadsBy (all k).stop_after (left first) (left x.inlet.source) given h) s.1 r)
  ends_by all k first x given read (Some end.Limit) some fresh r f s = absurd s
  ends_by all k first x given read (Some end.Memory) some fresh r f s = within (all k).stop_after (left first) (left x.inlet.source) given x.inlet.lane.reading r

  -- an input of a run has ended as a call promises
  pub input_ends : (all : Inputs) (entries : List Entry) (k : ℕ) (pair : S × InputCame) (x : Input S) → InputCameTo left faults all entries k pair x → is_some x.end ≡ true → faults pair.0 ≡ 0
      → EndsInput (all k).stop_after (left pair.0) (left x.inlet.source) pair.1.given pair.1.end pair.1.failed
  input_ends all entries k pair x c some fresh =
      subst (λ (d : InputCame). EndsInput (all k).stop_after (left pair.0) (left x.inlet.source) pair.1.given d.end d.failed) (sym c.is)
      (ends_by all k pair.0 x pair.1.given c.read x.end some fresh c.has.reads c.has.fails c.has.stands)
