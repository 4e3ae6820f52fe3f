-- What came of a call, and what it says of the Site before and after: what was tried and what failed by name, and what
-- places, sinks and texts hold.
use Rattle.std.specs.Prelude.{ℕ, ◌≡◌, ◌⊎◌, ◌+◌, ◌-◌, ◌<◌, ◌≤◌, ◌||◌, ⊤, Bool, true, false, List, [], ◌∷◌, ◌++◌, Option, Some, None, MatchOption, IsSome, is_some, map, take, drop, length, slice_get}
use Rattle.std.specs.List.{list_any}
use Rattle.arrival_spec.specs.declared.event.Scripted.{Scripted}
use Rattle.arrival_spec.specs.Arrival.{Arrival}
use Rattle.config_spec.specs.declared.conf.Conf.{Conf}
use Rattle.site_io.specs.declared.outside.OutsideFault.{OutsideFault}
use Rattle.site_io.specs.Seen.{Seen, PlaceSeen, SinkSeen}
use Rattle.run_spec.specs.Merge.{IsPartial, list_at, times as times_in}
use Rattle.count_spec.specs.Run.{ArePrinted}
use Rattle.result_spec.specs.Result.{inputs_of, arrivals_from, ComeTo, ExceedsFor, held_for, text_for}
use Rattle.run_spec.specs.Work.{Item}
use Rattle.text_spec.specs.Builtin.{builtin_rows}
use Rattle.text_spec.specs.declared.element.Element.{Element}
use Rattle.load_spec.specs.Load.{load_events}
use Rattle.call_spec.specs.Pairs.{Each}
use Rattle.call_spec.specs.Names.{times, has, marked}
use Rattle.call_spec.specs.Counts.{TextKept, PlaceKept, SinkKept}
use Rattle.call_spec.specs.Files.{FileText}
use Rattle.call_spec.specs.Ends.{TakenFrom, EndsReading, EndsInput, EndsOutput, CountsBy, HoldsBy, source_failed, wants_memory, has_failed, output_failed}
use Rattle.call_spec.specs.declared.end.OutputFault.{OutputFault}
use Rattle.call_spec.specs.Log.{HoldsLog}
use Rattle.call_spec.specs.Came.{Party, Parties, Refusal, InputCame, RunCame, Came}
use Rattle.call_spec.specs.Came.Refusal.{NoText, BadDescription, BadElements, NoSource, NoLog, NoOutput, NoMemory}
use Rattle.call_spec.specs.Came.Came.{BadWords, Fine, Refused, Ran, Loaded}
use Rattle.call_spec.specs.Load.{load_conf}
use Rattle.call_spec.specs.Plan.{Plan, described_parties, parties_of}
use Rattle.call_spec.specs.Plan.Plan.{Nothing, OneFile, Described, Generated}

-- ---- which names were tried, and of which something failed

-- the log's own stands before those of the outputs, if there is a log
abbrev pub beside : {A X : Type 0} → Option A → X → List X → List X
beside None x xs = xs
beside (Some a) x xs = x ∷ xs

-- the places, and the sink names, in the order in which they are opened
abbrev pub at_of : List Party → List (List ℕ)
at_of parties = map (λ (p : Party). p.at) parties

abbrev pub log_and : Option (List ℕ) → List (List ℕ) → List (List ℕ)
log_and None names = names
log_and (Some path) names = path ∷ names

abbrev pub sink_names : Parties → List (List ℕ)
sink_names parties = log_and parties.log (at_of parties.outputs)

abbrev pub failed_text : Refusal → List (List ℕ)
failed_text (NoText name) = name ∷ []
failed_text (BadDescription fault) = []
failed_text (BadElements name fault) = []
failed_text (NoSource i) = []
failed_text NoLog = []
failed_text (NoOutput j) = []
failed_text NoMemory = []

abbrev pub failed_texts : Came → List (List ℕ)
failed_texts BadWords = []
failed_texts Fine = []
failed_texts (Refused refusal n m) = failed_text refusal
failed_texts (Ran run) = []
failed_texts (Loaded run lengths) = []

abbrev pub refused_place : Parties → Refusal → List (List ℕ)
refused_place parties (NoText name) = []
refused_place parties (BadDescription fault) = []
refused_place parties (BadElements name fault) = []
refused_place parties (NoSource i) = take 1 (drop i (at_of parties.inputs))
refused_place parties NoLog = []
refused_place parties (NoOutput j) = []
refused_place parties NoMemory = []

abbrev pub refused_sink : Parties → Refusal → List (List ℕ)
refused_sink parties (NoText name) = []
refused_sink parties (BadDescription fault) = []
refused_sink parties (BadElements name fault) = []
refused_sink parties (NoSource i) = []
refused_sink parties NoLog = take 1 (sink_names parties)
refused_sink parties (NoOutput j) = take 1 (drop j (at_of parties.outputs))
refused_sink parties NoMemory = []

abbrev pub tried_places : Parties → Came → List (List ℕ)
tried_places parties BadWords = []
tried_places parties Fine = []
tried_places parties (Refused refusal n m) = take n (at_of parties.inputs)
tried_places parties (Ran run) = at_of parties.inputs
tried_places parties (Loaded run lengths) = []

abbrev pub failed_places : Parties → Came → List (List ℕ)
failed_places parties BadWords = []
failed_places parties Fine = []
failed_places parties (Refused refusal n m) = refused_place parties refusal
failed_places parties (Ran run) = marked (at_of parties.inputs) (map (λ (c : InputCame). c.failed) run.inputs)
failed_places parties (Loaded run lengths) = []

abbrev pub tried_sinks : Parties → Came → List (List ℕ)
tried_sinks parties BadWords = []
tried_sinks parties Fine = []
tried_sinks parties (Refused refusal n m) = take m (sink_names parties)
tried_sinks parties (Ran run) = sink_names parties
tried_sinks parties (Loaded run lengths) = []

abbrev pub failed_sinks : Parties → Came → List (List ℕ)
failed_sinks parties BadWords = []
failed_sinks parties Fine = []
failed_sinks parties (Refused refusal n m) = refused_sink parties refusal
failed_sinks parties (Ran run) = marked (sink_names parties) (beside parties.log (has_failed run.log) (map output_failed run.outputs))
failed_sinks parties (Loaded run lengths) = []

-- So many places and sinks were tried at a refusal: none before all texts are read, and no sink before all sources are
-- out. The one that was refused is the last that was tried.
abbrev pub IsRefusal : Parties → Refusal → ℕ → ℕ → Type 0
IsRefusal parties (NoText name) n m = (n ≡ 0) × (m ≡ 0)
IsRefusal parties (BadDescription fault) n m = (n ≡ 0) × (m ≡ 0)
IsRefusal parties (BadElements name fault) n m = (n ≡ 0) × (m ≡ 0)
IsRefusal parties (NoSource i) n m = (n ≡ i + 1) × (i < length parties.inputs) × (m ≡ 0)
IsRefusal parties NoLog n m = (n ≡ length parties.inputs) × (m ≡ 1) × IsSome parties.log
IsRefusal parties (NoOutput j) n m = (n ≡ length parties.inputs) × (j < length parties.outputs) × (m ≡ length (log_and parties.log (take (j + 1) (at_of parties.outputs))))
IsRefusal parties NoMemory n m = (n ≤ length parties.inputs) × (m ≤ length (sink_names parties)) × ((n ≡ length parties.inputs) ⊎ (m ≡ 0))

-- the sink names of a refused call that were opened, and given back: they may be empty now
abbrev pub emptied_sinks : Parties → Refusal → ℕ → List (List ℕ)
emptied_sinks parties (NoText name) m = []
emptied_sinks parties (BadDescription fault) m = []
emptied_sinks parties (BadElements name fault) m = []
emptied_sinks parties (NoSource i) m = []
emptied_sinks parties NoLog m = []
emptied_sinks parties (NoOutput j) m = take (m - 1) (sink_names parties)
emptied_sinks parties NoMemory m = take m (sink_names parties)

-- ---- what is left and held

-- what a place is told to have left stays
abbrev pub KeepsLeft : PlaceSeen → PlaceSeen → Type 0
KeepsLeft old new = (events : List Scripted) → old.left ≡ Some events → new.left ≡ Some events

-- what a sink name holds stays; of one that was emptied it may be nothing
abbrev pub KeepsHeld : Bool → SinkSeen → SinkSeen → Type 0
KeepsHeld false old new = new.held ≡ old.held
KeepsHeld true old new = (octets : List ℕ) → old.held ≡ Some octets → (new.held ≡ Some octets) ⊎ (new.held ≡ Some [])

-- ---- a run

abbrev pub given_of : RunCame → List (List Scripted)
given_of run = map (λ (c : InputCame). c.given) run.inputs

-- the arrivals of each input of a description
abbrev pub arrivals_in : Conf → RunCame → List (List (Arrival (List ℕ)))
arrivals_in conf run = arrivals_from (inputs_of conf) 0 (given_of run)

-- after how many events an input ends
abbrev pub limit_of : Conf → ℕ → ℕ
limit_of conf k = (inputs_of conf k).stop_after

-- how an input ended, by what it runs: that of one file ends behind 2 ^ 48 answers as well
abbrev pub Ends : Plan → ℕ → Option (List Scripted) → Option (List Scripted) → InputCame → Type 0
Ends Nothing k left now_left came = ⊥
Ends (OneFile place out) k left now_left came = EndsReading left now_left came.given came.end × (came.failed ≡ source_failed came.end)
Ends (Described conf rows) k left now_left came = EndsInput (limit_of conf k) left now_left came.given came.end came.failed
Ends (Generated number count) k left now_left came = ⊥

-- an input whose arrivals need not all have been worked off: it wanted memory, or the log ended
abbrev pub is_short : RunCame → ℕ → Bool
is_short run k = is_some run.log || list_any (λ (c : InputCame). wants_memory c.end) (take 1 (drop k run.inputs))

-- The order takes of each input's arrivals the first ones, and else all.
pub record IsOrder {X : Type 0} (run : RunCame) (lists : List (List X)) : Type 0 where
  pub first : IsPartial run.order lists
  pub all : (k : ℕ) → is_short run k ≡ false → times_in k run.order ≡ length (list_at lists k)

abbrev pub IsOrdered : Plan → RunCame → Type 0
IsOrdered Nothing run = ⊥
IsOrdered (OneFile place out) run = ⊤
IsOrdered (Described conf rows) run = IsOrder run (arrivals_in conf run)
IsOrdered (Generated number count) run = ⊥

-- the lines of one file are cut off where its input wanted memory; the outputs of a description where an intermediate did
abbrev pub input_wants : RunCame → Bool
input_wants run = list_any (λ (c : InputCame). wants_memory c.end) run.inputs

abbrev pub stage_wants : RunCame → Bool
stage_wants run = list_any (λ b. b) run.stages

-- what the output of one file holds: the lines of what it gave
pub record HoldsFile (run : RunCame) (f : Option OutputFault) (old now : Option (List ℕ)) : Type 0 where
  pub text : List ℕ
  pub is : FileText run.inputs text
  pub ends : EndsOutput (input_wants run) f ⊥
  pub holds : HoldsBy (input_wants run) f old now text []

-- what output j of a description holds: its text of what comes to it of the arrivals in their order
pub record HoldsResult (conf : Conf) (rows : List Element) (run : RunCame) (j : ℕ) (f : Option OutputFault) (old now : Option (List ℕ)) : Type 0 where
  pub items : List Item
  pub come : ComeTo conf (given_of run) run.order j items
  pub ends : EndsOutput (stage_wants run) f (ExceedsFor (slice_get conf.outputs j) items)
  pub holds : HoldsBy (stage_wants run) f old now (text_for rows (slice_get conf.outputs j) items) (text_for rows (slice_get conf.outputs j) (held_for (slice_get conf.outputs j) items))

abbrev pub OutputHolds : Plan → RunCame → ℕ → Option OutputFault → Option (List ℕ) → Option (List ℕ) → Type 0
OutputHolds Nothing run j f old now = ⊥
OutputHolds (OneFile place out) run j f old now = HoldsFile run f old now
OutputHolds (Described conf rows) run j f old now = HoldsResult conf rows run j f old now
OutputHolds (Generated number count) run j f old now = ⊥

-- what the log shows
abbrev pub LogHolds : Plan → RunCame → (List ℕ → SinkSeen) → (List ℕ → SinkSeen) → Type 0
LogHolds Nothing run old new = ⊥
LogHolds (OneFile place out) run old new = run.log ≡ None
LogHolds (Described conf rows) run old new = MatchOption conf.order_log (run.log ≡ None) (λ path. HoldsLog run.log (arrivals_in conf run) (old path).held (new path).held run.order)
LogHolds (Generated number count) run old new = ⊥

-- what was counted, unless memory was wanted to count it
abbrev pub CountsOf : Conf → RunCame → Type 0
CountsOf conf run = input_wants run ≡ false → ArePrinted (inputs_of conf) (given_of run) run.counts

abbrev pub IsCounted : Plan → RunCame → Type 0
IsCounted Nothing run = ⊥
IsCounted (OneFile place out) run = ⊤
IsCounted (Described conf rows) run = CountsOf conf run
IsCounted (Generated number count) run = ⊥

-- ---- a run of generated load

-- it never fails, and gives all of its events, unless memory is wanted
pub record GaveLoad (number count k : ℕ) (party : Party) (came : InputCame) : Type 0 where
  pub rest : List Scripted
  pub whole : load_events number count ≡ came.given ++ rest
  pub ends : EndsInput (limit_of load_conf k) (Some (load_events number count)) (Some rest) came.given came.end came.failed
  pub sound : came.failed ≡ false

-- how many octets the text of output j has, of what comes to it of the arrivals in their order; its sink never fails
pub record HasLength (run : RunCame) (j : ℕ) (f : Option OutputFault) (length : ℕ) : Type 0 where
  pub items : List Item
  pub come : ComeTo load_conf (given_of run) run.order j items
  pub ends : EndsOutput (stage_wants run) f (ExceedsFor (slice_get load_conf.outputs j) items)
  pub counts : CountsBy (stage_wants run) f length (text_for builtin_rows (slice_get load_conf.outputs j) items) (text_for builtin_rows (slice_get load_conf.outputs j) (held_for (slice_get load_conf.outputs j) items))
  pub sound : output_failed f ≡ false

-- the load gave its events, their arrivals were worked off in an order, and each output's sink took so many octets of them
pub record LoadLeaves (number count : ℕ) (run : RunCame) (lengths : List ℕ) : Type 0 where
  pub gave : Each (GaveLoad number count) 0 (described_parties load_conf).inputs run.inputs
  pub ordered : IsOrder run (arrivals_in load_conf run)
  pub unlogged : run.log ≡ None
  pub stages : length run.stages ≡ length (described_parties load_conf).stages
  pub outputs : length run.outputs ≡ length load_conf.outputs
  pub lengths_are : Each (HasLength run) 0 run.outputs lengths
  pub counted : CountsOf load_conf run

abbrev pub IsLoaded : Plan → RunCame → List ℕ → Type 0
IsLoaded Nothing run lengths = ⊥
IsLoaded (OneFile place out) run lengths = ⊥
IsLoaded (Described conf rows) run lengths = ⊥
IsLoaded (Generated number count) run lengths = LoadLeaves number count run lengths

module _ {S : Type 0} (left : S → Option (List Scripted)) (faults : S → ℕ) where
  -- a source that had not failed yet had given these events
  abbrev pub GaveUnfailed : Option (List Scripted) → List Scripted → Type 0
  GaveUnfailed old given = (source : S) × (faults source ≡ 0) × TakenFrom old (left source) given

  -- what an input gave: its place has lost it, and nothing more; the source gave all of it before it failed, if it did
  pub record Gave (plan : Plan) (old new : Seen) (k : ℕ) (party : Party) (came : InputCame) : Type 0 where
    pub taken : TakenFrom (old.place party.at).left (new.place party.at).left came.given
    pub unfailed : GaveUnfailed (old.place party.at).left came.given
    pub ends : Ends plan k (old.place party.at).left (new.place party.at).left came

  -- a run: each input gave its events, their arrivals were worked off in an order that the log shows, and each output has
  -- its text of them
  pub record RunLeaves (plan : Plan) (run : RunCame) (old new : Seen) : Type 0 where
    pub gave : Each (Gave plan old new) 0 (parties_of plan).inputs run.inputs
    pub ordered : IsOrdered plan run
    pub logged : LogHolds plan run old.sink new.sink
    pub stages : length run.stages ≡ length (parties_of plan).stages
    pub holds : Each (λ j (party : Party) f. OutputHolds plan run j f (old.sink party.at).held (new.sink party.at).held) 0 (parties_of plan).outputs run.outputs
    pub counted : IsCounted plan run

  -- a call without a run took nothing and wrote nothing
  abbrev pub Leaves : Plan → Came → Seen → Seen → Type 0
  Leaves plan BadWords old new = ⊤
  Leaves plan Fine old new = ⊤
  Leaves plan (Refused refusal n m) old new =
      IsRefusal (parties_of plan) refusal n m × ((p : List ℕ) → KeepsLeft (old.place p) (new.place p)) × ((p : List ℕ) → KeepsHeld (has p (emptied_sinks (parties_of plan) refusal m)) (old.sink p) (new.sink p))
  Leaves plan (Ran run) old new = RunLeaves plan run old new
  Leaves plan (Loaded run lengths) old new = IsLoaded plan run lengths

  -- what came of a call, but for what it says
  pub record Comes (plan : Plan) (came : Came) (old new : Seen) : Type 0 where
    pub texts : (p : List ℕ) → TextKept (has p (failed_texts came)) (old.text p) (new.text p)
    pub places : (p : List ℕ) → PlaceKept (times p (tried_places (parties_of plan) came)) (has p (failed_places (parties_of plan) came)) (old.place p) (new.place p)
    pub sinks : (p : List ℕ) → SinkKept (times p (tried_sinks (parties_of plan) came)) (has p (failed_sinks (parties_of plan) came)) (old.sink p) (new.sink p)
    pub leaves : Leaves plan came old new
