-- What inputs hand on in their turns.
use Rattle.std.specs.Prelude.{ℕ, ◌≡◌, ◌⊎◌, List, ◌++◌, length, Option, IsSome}
use Rattle.arrival_spec.specs.declared.event.Scripted.{Scripted}
use Rattle.arrival_spec.specs.Settings.{Settings}
use Rattle.run_spec.specs.Read.{ReadArrival}
use Rattle.run_spec.specs.Judge.{Inputs}
use Rattle.run_spec.specs.Work.{items_of}
use Rattle.call_spec.specs.Pairs.{Each}
use Rattle.parser_lane.specs.Parsers.{inputs}
use Rattle.run_input.specs.declared.input.Input.{Input}
use Rattle.run_input.specs.declared.input.InputAnswer.TheVariants as answer
use Rattle.run_input.specs.Inputs.{Brings, HasGiven, IsRight}
use Rattle.logged_outputs.specs.Entries.{AreKnown, AreOf, Entry, items_in, own, Takes}

module _ {S : Type 0} (left : S → Option (List Scripted)) (faults : S → ℕ) where
  -- an input has ended, or its source had nothing ready when it was asked last
  abbrev pub HadNothing : Input S → Type 0
  HadNothing x = IsSome x.end ⊎ ((old : Input S) × IsRight left faults old × Brings left faults old x answer.NotYet)

  -- an input handed on these entries, which are the items of the arrivals that it worked off behind others
  pub record Went (first : S) (settings : Settings) (number : ℕ) (before : List ReadArrival) (more : List Entry) (x : Input S) : Type 0 where
    pub given : List Scripted
    pub read : List ReadArrival
    pub has : HasGiven left faults first settings number given read x
    pub items : items_of (inputs settings) read ≡ items_of (inputs settings) before ++ items_in more
    pub are_own : AreOf number more

  -- whatever an input stood for, it has handed on these entries more
  abbrev pub InputGives : List Entry → Input S → Input S → Type 0
  InputGives more old new = (first : S) (settings : Settings) (number : ℕ) (given : List Scripted) (read : List ReadArrival) → HasGiven left faults first settings number given read old → Went first settings number read more new

  -- the entries of an input are the items of the arrivals that it worked off
  pub record InputSoFar (all : Inputs) (entries : List Entry) (k : ℕ) (first : S) (x : Input S) : Type 0 where
    pub given : List Scripted
    pub read : List ReadArrival
    pub has : HasGiven left faults first (all k) k given read x
    pub items : own k entries ≡ items_of (inputs (all k)) read

  -- so it is for all inputs, and there are no entries of others
  pub record SoFar (all : Inputs) (entries : List Entry) (firsts : List S) (xs : List (Input S)) : Type 0 where
    pub each : Each (InputSoFar all entries) 0 firsts xs
    pub known : AreKnown (length firsts) entries

  -- whatever all inputs stood for, they have handed on these entries more
  abbrev pub Gives : List Entry → List (Input S) → List (Input S) → Type 0
  Gives more old new = (all : Inputs) (firsts : List S) (entries : List Entry) → SoFar all entries firsts old → SoFar all (entries ++ more) firsts new

  module _ {T : Type 0} (took : List Entry → T → T → Type 0) where
    -- the entries of an input were taken, and those of all inputs
    abbrev pub Turned : Input S → Input S → T → T → Type 0
    Turned old new taker now_taker = (more : List Entry) × InputGives more old new × Takes took more taker now_taker

    abbrev pub Follows : List (Input S) → List (Input S) → T → T → Type 0
    Follows old new taker now_taker = (more : List Entry) × Gives more old new × Takes took more taker now_taker
