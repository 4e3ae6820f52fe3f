-- What a status of a run comes from.
use Rattle.std.proofs.Common.{◌≡◌, ◌⊎◌, inl, inr, ℕ, zero, suc, ◌+◌, ◌<◌, max, Bool, true, false, cond, List, [], ◌∷◌, ◌++◌, length, take, drop, map, Option, Some, None, refl, ap, sym, subst, ◌∙◌, arith}
use Rattle.std.specs.Prelude.{Result, Ok, Err, MatchOption, IsSome, bytes_eq, ◌||◌, fold}
use Rattle.std.proofs.lemmas.List.{length-map}
use Rattle.arrival_spec.specs.declared.event.Scripted.{Scripted}
use Rattle.config_spec.specs.declared.conf.Conf.{Conf}
use Rattle.text_spec.specs.declared.element.Element.{Element}
use Rattle.site_io.specs.Outside.{Rose}
use Rattle.site_io.specs.Seen.{Seen, TextSeen, PlaceSeen, SinkSeen}
use Rattle.site_io.specs.declared.outside.OutsideFault.{OutsideFault}
use Rattle.site_io.specs.declared.outside.OutsideFault.TheVariants as fault
use Rattle.call_spec.specs.declared.end.InputEnd.{InputEnd}
use Rattle.call_spec.specs.declared.end.InputEnd.TheVariants as end
use Rattle.call_spec.specs.declared.end.OutputFault.{OutputFault}
use Rattle.call_spec.specs.declared.end.OutputFault.TheVariants as output
use Rattle.call_spec.specs.Pairs.{Each}
use Rattle.call_spec.specs.Names.{times, has, marked}
use Rattle.call_spec.specs.Counts.{TextKept, PlaceKept, SinkKept}
use Rattle.call_spec.specs.Came.{Party, Parties, Refusal, InputCame, RunCame, Came}
use Rattle.call_spec.specs.Came.Refusal.{NoText, BadDescription, BadElements, NoSource, NoLog, NoOutput, NoMemory}
use Rattle.call_spec.specs.Came.Came.{BadWords, Fine, Refused, Ran, Loaded}
use Rattle.call_spec.specs.Plan.{Plan, parties_of}
use Rattle.call_spec.specs.Plan.Plan.{Nothing, OneFile, Described, Generated}
use Rattle.call_spec.specs.Leaves.{Gave, arrivals_in, at_of, beside, log_and, sink_names, tried_places, failed_places, tried_sinks, failed_sinks}
use Rattle.call_spec.specs.Ends.{has_failed, output_failed}
use Rattle.call_spec.specs.Log.{HoldsLog}
use Rattle.call_spec.specs.Lines.{Said, lines_of}
use Rattle.call_spec.specs.Status.{end_code, fault_code, output_code, stage_code, said_code, wanted_code, worst, run_code}
use Rattle.call_spec.specs.Call.{CallsAs, Collects, IsOfCollect}
use Rattle.call_spec.proofs.NameLemmas.{itself}

-- a text or a place has failed
abbrev Cause : Seen → Seen → Type 0
Cause old new = ((p : List ℕ) × Rose (old.text p).faults (new.text p).faults) ⊎ ((p : List ℕ) × Rose (old.place p).faults (new.place p).faults)

place_cause : (old new : Seen) (n : ℕ) (p : List ℕ) (b : Bool) → b ≡ true → PlaceKept n b (old.place p) (new.place p) → Cause old new
place_cause old new n p b e k = inr (p, (subst (λ x. PlaceKept n x (old.place p) (new.place p)) e k).faults.1)

code_3 : (k : ℕ) (said : Result (Unit {0}) OutsideFault) → 3 ≡ max k (wanted_code said) → k ≡ 3
code_3 k (Ok done) e = omega (arith, e)
code_3 k (Err fault.Failed) e = omega (arith, e)
code_3 k (Err fault.NoMemory) e = absurd (omega (arith, e))

run_3 : (k : ℕ) (said : Result (Unit {0}) OutsideFault) → 3 ≡ max k (said_code said) → k ≡ 3
run_3 k (Ok done) e = omega (arith, e)
run_3 k (Err fault.Failed) e = absurd (omega (arith, e))
run_3 k (Err fault.NoMemory) e = absurd (omega (arith, e))

-- outputs, the log and intermediates give no 3
outputs_3 : (m : ℕ) (faults : List (Option OutputFault)) → fold max m (map output_code faults) ≡ 3 → m ≡ 3
outputs_3 m [] e = e
outputs_3 m (f ∷ faults) e = by_fault f (outputs_3 (max m (output_code f)) faults e)
  where
    by_fault : (f : Option OutputFault) → max m (output_code f) ≡ 3 → m ≡ 3
    by_fault None h = omega (arith, h)
    by_fault (Some output.Failed) h = absurd (omega (arith, h))
    by_fault (Some output.Limit) h = absurd (omega (arith, h))
    by_fault (Some output.NoMemory) h = absurd (omega (arith, h))

stages_3 : (m : ℕ) (stages : List Bool) → fold max m (map stage_code stages) ≡ 3 → m ≡ 3
stages_3 m [] e = e
stages_3 m (b ∷ stages) e = by_stage b (stages_3 (max m (stage_code b)) stages e)
  where
    by_stage : (b : Bool) → max m (stage_code b) ≡ 3 → m ≡ 3
    by_stage true h = absurd (omega (arith, h))
    by_stage false h = omega (arith, h)

log_3 : (f : Option OutsideFault) → fault_code f ≡ 3 → ⊥
log_3 None e = omega (arith, e)
log_3 (Some fault.Failed) e = omega (arith, e)
log_3 (Some fault.NoMemory) e = omega (arith, e)

-- of a maximum that is 3, one is 3
one_3 : (a b : ℕ) → max a b ≡ 3 → (a ≡ 3) ⊎ (b ≡ 3)
one_3 zero b e = inr (omega (arith, e))
one_3 (suc zero) b e = inr (omega (arith, e))
one_3 (suc (suc zero)) b e = inr (omega (arith, e))
one_3 (suc (suc (suc zero))) b e = inl refl
one_3 (suc (suc (suc (suc a)))) b e = absurd (omega (arith, e))

here : (name : List ℕ) (rest : List (List ℕ)) → has name (name ∷ rest) ≡ true
here name rest = ap (λ b. b || has name rest) (itself name)

behind : (b : Bool) (p name : List ℕ) (rest : List (List ℕ)) → has p rest ≡ true → has p (cond b (name ∷ rest) rest) ≡ true
behind true p name rest e = elim (bytes_eq p name) as (λ x. (x || has p rest) ≡ true) [ true ↦ refl | false ↦ e ]
behind false p name rest e = e

first_of : (xs : List (List ℕ)) (i : ℕ) → i < length xs → (x : List ℕ) × (take 1 (drop i xs) ≡ x ∷ [])
first_of [] i lt = absurd (omega arith)
first_of (x ∷ xs) zero lt = (x, refl)
first_of (x ∷ xs) (suc i) lt = first_of xs i (omega arith)

module _ {S : Type 0} (left : S → Option (List Scripted)) (faults : S → ℕ) where
  -- an input of which the source failed
  inputs_3 : (conf : Conf) (rows : List Element) (old new : Seen) (n m : ℕ) (parties : List Party) (inputs : List InputCame) → Each (Gave left faults (Described conf rows) old new) n parties inputs → fold max m (map (λ (c : InputCame). end_code c.end) inputs) ≡ 3
      → (m ≡ 3) ⊎ ((p : List ℕ) × (has p (marked (at_of parties) (map (λ (c : InputCame). c.failed) inputs)) ≡ true))
  inputs_3 conf rows old new n m [] [] g e = inl e
  inputs_3 conf rows old new n m [] (c ∷ inputs) g e = absurd g
  inputs_3 conf rows old new n m (party ∷ parties) [] g e = absurd g
  inputs_3 conf rows old new n m (party ∷ parties) (c ∷ inputs) g e = elim (inputs_3 conf rows old new (suc n) (max m (end_code c.end)) parties inputs g.1 e) [
    | inl h ↦ by_end c.end refl h
    | inr found ↦ inr (found.0, behind c.failed found.0 party.at (marked (at_of parties) (map (λ (c : InputCame). c.failed) inputs)) found.1)
  ]
    where
      rest : List (List ℕ)
      rest = marked (at_of parties) (map (λ (c : InputCame). c.failed) inputs)

      by_end : (x : InputEnd) → c.end ≡ x → max m (end_code x) ≡ 3 → (m ≡ 3) ⊎ ((p : List ℕ) × (has p (cond c.failed (party.at ∷ rest) rest) ≡ true))
      by_end end.End is h = inl (omega (arith, h))
      by_end end.Failed is h = inr (party.at, subst (λ b. has party.at (cond b (party.at ∷ rest) rest) ≡ true) (sym (rw is at g.0.ends).0) (here party.at rest))
      by_end end.Limit is h = absurd (omega (arith, h))
      by_end end.Memory is h = absurd (omega (arith, h))

  module _ (file : List ℕ) (old new : Seen) where
    abbrev Came3 : Plan → Came → Result (Unit {0}) OutsideFault → Type 0
    Came3 plan came said = CallsAs left faults (λ text plan came. IsOfCollect text file plan came) plan came said old new 3

    by_refusal : (plan : Plan) (r : Refusal) (n m : ℕ) (said : Result (Unit {0}) OutsideFault) → Came3 plan (Refused r n m) said → Cause old new
    by_refusal plan (NoText name) n m said c = inl (name, (subst (λ x. TextKept x (old.text name) (new.text name)) (here name []) (c.comes.texts name)).faults.1)
    by_refusal plan (BadDescription f) n m said c = absurd (let e = code_3 2 said c.answers in omega (arith, e))
    by_refusal plan (BadElements name f) n m said c = absurd (let e = code_3 2 said c.answers in omega (arith, e))
    by_refusal plan (NoSource i) n m said c =
        let tried = c.comes.leaves.0 in
        let long = length-map (parties_of plan).inputs (λ (p : Party). p.at) in
        let f = first_of (at_of (parties_of plan).inputs) i (omega (arith, tried.1, long)) in
        place_cause old new (times f.0 (tried_places (parties_of plan) (Refused (NoSource i) n m))) f.0 (has f.0 (failed_places (parties_of plan) (Refused (NoSource i) n m))) (ap (has f.0) f.1 ∙ here f.0 []) (c.comes.places f.0)
    by_refusal plan NoLog n m said c = absurd (let e = code_3 4 said c.answers in omega (arith, e))
    by_refusal plan (NoOutput j) n m said c = absurd (let e = code_3 4 said c.answers in omega (arith, e))
    by_refusal plan NoMemory n m said c = absurd (let e = code_3 6 said c.answers in omega (arith, e))

    by_run : (plan : Plan) (run : RunCame) (said : Result (Unit {0}) OutsideFault) → Came3 plan (Ran run) said → Cause old new
    by_run Nothing run said c = absurd c.may
    by_run (OneFile place out) run said c = absurd c.may
    by_run (Generated number count) run said c = absurd c.may
    by_run (Described conf rows) run said c =
        let parties = parties_of (Described conf rows) in
        let inputs = worst (map (λ (x : InputCame). end_code x.end) run.inputs) in
        let stages = worst (map stage_code run.stages) in
        let outputs = worst (map output_code run.outputs) in
        elim (one_3 inputs (max (fault_code run.log) (max stages outputs)) (run_3 (run_code run) said c.answers)) [
          | inl h ↦ elim (inputs_3 conf rows old new 0 0 parties.inputs run.inputs c.comes.leaves.gave h) [
            | inl z ↦ absurd (omega (arith, z))
            | inr f ↦ place_cause old new (times f.0 (tried_places parties (Ran run))) f.0 (has f.0 (failed_places parties (Ran run))) f.1 (c.comes.places f.0)
          ]
          | inr h ↦ elim (one_3 (fault_code run.log) (max stages outputs) h) [
            | inl l ↦ absurd (log_3 run.log l)
            | inr k ↦ elim (one_3 stages outputs k) [
              | inl x ↦ absurd (let z = stages_3 0 run.stages x in omega (arith, z))
              | inr x ↦ absurd (let z = outputs_3 0 run.outputs x in omega (arith, z))
            ]
          ]
        ]

    by_came : (plan : Plan) (came : Came) (said : Result (Unit {0}) OutsideFault) → Came3 plan came said → Cause old new
    by_came plan BadWords said c = absurd c.may
    by_came plan Fine said c = absurd c.may
    by_came plan (Refused r n m) said c = by_refusal plan r n m said c
    by_came plan (Ran run) said c = by_run plan run said c
    by_came plan (Loaded run lengths) said c = absurd c.may

  pub cause_of_3 : (file : List ℕ) (old new : Seen) → Collects left faults file old new 3 → Cause old new
  cause_of_3 file old new k = by_came file old new k.0 k.1 k.2 k.3

-- ---- a sink, or saying

-- a sink name has failed, or saying has
abbrev SinkCause : Seen → Seen → Type 0
SinkCause old new = ((p : List ℕ) × Rose (old.sink p).faults (new.sink p).faults) ⊎ Rose old.say.faults new.say.faults

sink_cause : (old new : Seen) (n : ℕ) (p : List ℕ) (b : Bool) → b ≡ true → SinkKept n b (old.sink p) (new.sink p) → SinkCause old new
sink_cause old new n p b e k = inl (p, (subst (λ x. SinkKept n x (old.sink p) (new.sink p)) e k).faults.1)

code_4 : (k : ℕ) (said : Result (Unit {0}) OutsideFault) → 4 ≡ max k (wanted_code said) → k ≡ 4
code_4 k (Ok done) e = omega (arith, e)
code_4 k (Err fault.Failed) e = omega (arith, e)
code_4 k (Err fault.NoMemory) e = absurd (omega (arith, e))

one_4 : (a b : ℕ) → max a b ≡ 4 → (a ≡ 4) ⊎ (b ≡ 4)
one_4 zero b e = inr (omega (arith, e))
one_4 (suc zero) b e = inr (omega (arith, e))
one_4 (suc (suc zero)) b e = inr (omega (arith, e))
one_4 (suc (suc (suc zero))) b e = inr (omega (arith, e))
one_4 (suc (suc (suc (suc zero)))) b e = inl refl
one_4 (suc (suc (suc (suc (suc a))))) b e = absurd (omega (arith, e))

ends_4 : (m : ℕ) (inputs : List InputCame) → fold max m (map (λ (c : InputCame). end_code c.end) inputs) ≡ 4 → m ≡ 4
ends_4 m [] e = e
ends_4 m (c ∷ inputs) e = by_end c.end (ends_4 (max m (end_code c.end)) inputs e)
  where
    by_end : (x : InputEnd) → max m (end_code x) ≡ 4 → m ≡ 4
    by_end end.End h = omega (arith, h)
    by_end end.Failed h = omega (arith, h)
    by_end end.Limit h = absurd (omega (arith, h))
    by_end end.Memory h = absurd (omega (arith, h))

stages_4 : (m : ℕ) (stages : List Bool) → fold max m (map stage_code stages) ≡ 4 → m ≡ 4
stages_4 m [] e = e
stages_4 m (b ∷ stages) e = by_stage b (stages_4 (max m (stage_code b)) stages e)
  where
    by_stage : (b : Bool) → max m (stage_code b) ≡ 4 → m ≡ 4
    by_stage true h = absurd (omega (arith, h))
    by_stage false h = omega (arith, h)

-- an output of which the sink failed
outputs_4 : (P : ℕ → Party → Option OutputFault → Type 0) (n m : ℕ) (parties : List Party) (faults : List (Option OutputFault)) → Each P n parties faults → fold max m (map output_code faults) ≡ 4
    → (m ≡ 4) ⊎ ((p : List ℕ) × (has p (marked (at_of parties) (map output_failed faults)) ≡ true))
outputs_4 P n m [] [] g e = inl e
outputs_4 P n m [] (f ∷ faults) g e = absurd g
outputs_4 P n m (party ∷ parties) [] g e = absurd g
outputs_4 P n m (party ∷ parties) (f ∷ faults) g e = elim (outputs_4 P (suc n) (max m (output_code f)) parties faults g.1 e) [
  | inl h ↦ by_fault f h
  | inr found ↦ inr (found.0, behind (output_failed f) found.0 party.at (marked (at_of parties) (map output_failed faults)) found.1)
]
  where
    rest : List (List ℕ)
    rest = marked (at_of parties) (map output_failed faults)

    by_fault : (x : Option OutputFault) → max m (output_code x) ≡ 4 → (m ≡ 4) ⊎ ((p : List ℕ) × (has p (cond (output_failed x) (party.at ∷ rest) rest) ≡ true))
    by_fault None h = inl (omega (arith, h))
    by_fault (Some output.Failed) h = inr (party.at, here party.at rest)
    by_fault (Some output.Limit) h = absurd (omega (arith, h))
    by_fault (Some output.NoMemory) h = absurd (omega (arith, h))

-- the log's name stands before them
beside_outputs : (log : Option (List ℕ)) (b : Bool) (names : List (List ℕ)) (marks : List Bool) (p : List ℕ) → has p (marked names marks) ≡ true → has p (marked (log_and log names) (beside log b marks)) ≡ true
beside_outputs None b names marks p e = e
beside_outputs (Some path) b names marks p e = behind b p path (marked names marks) e

log_4 : {X : Type 0} (log : Option (List ℕ)) (f : Option OutsideFault) (lists : List (List X)) (order : List ℕ) (old new : List ℕ → SinkSeen) (names : List (List ℕ)) (marks : List Bool)
    → MatchOption log (f ≡ None) (λ path. HoldsLog f lists (old path).held (new path).held order) → fault_code f ≡ 4 → (p : List ℕ) × (has p (marked (log_and log names) (beside log (has_failed f) marks)) ≡ true)
log_4 None f lists order old new names marks h e = absurd (let z : fault_code f ≡ 0 = ap fault_code h in omega (arith, z, e))
log_4 (Some path) None lists order old new names marks h e = absurd (omega (arith, e))
log_4 (Some path) (Some fault.Failed) lists order old new names marks h e = (path, here path (marked names marks))
log_4 (Some path) (Some fault.NoMemory) lists order old new names marks h e = absurd (omega (arith, e))

first_name : (log : Option (List ℕ)) (names : List (List ℕ)) → IsSome log → (x : List ℕ) × (take 1 (log_and log names) ≡ x ∷ [])
first_name None names s = absurd (cc)
first_name (Some path) names s = (path, refl)

module _ {S : Type 0} (left : S → Option (List Scripted)) (faults : S → ℕ) (file : List ℕ) (old new : Seen) where
  abbrev Came4 : Plan → Came → Result (Unit {0}) OutsideFault → Type 0
  Came4 plan came said = CallsAs left faults (λ text plan came. IsOfCollect text file plan came) plan came said old new 4

  refusal_4 : (plan : Plan) (r : Refusal) (n m : ℕ) (said : Result (Unit {0}) OutsideFault) → Came4 plan (Refused r n m) said → SinkCause old new
  refusal_4 plan (NoText name) n m said c = absurd (let e = code_4 3 said c.answers in omega (arith, e))
  refusal_4 plan (BadDescription f) n m said c = absurd (let e = code_4 2 said c.answers in omega (arith, e))
  refusal_4 plan (BadElements name f) n m said c = absurd (let e = code_4 2 said c.answers in omega (arith, e))
  refusal_4 plan (NoSource i) n m said c = absurd (let e = code_4 3 said c.answers in omega (arith, e))
  refusal_4 plan NoLog n m said c =
      let f = first_name (parties_of plan).log (at_of (parties_of plan).outputs) c.comes.leaves.0.2 in
      sink_cause old new (times f.0 (tried_sinks (parties_of plan) (Refused NoLog n m))) f.0 (has f.0 (failed_sinks (parties_of plan) (Refused NoLog n m))) (ap (has f.0) f.1 ∙ here f.0 []) (c.comes.sinks f.0)
  refusal_4 plan (NoOutput j) n m said c =
      let tried = c.comes.leaves.0 in
      let long = length-map (parties_of plan).outputs (λ (p : Party). p.at) in
      let f = first_of (at_of (parties_of plan).outputs) j (omega (arith, tried.1, long)) in
      sink_cause old new (times f.0 (tried_sinks (parties_of plan) (Refused (NoOutput j) n m))) f.0 (has f.0 (failed_sinks (parties_of plan) (Refused (NoOutput j) n m))) (ap (has f.0) f.1 ∙ here f.0 []) (c.comes.sinks f.0)
  refusal_4 plan NoMemory n m said c = absurd (let e = code_4 6 said c.answers in omega (arith, e))

  -- a run of which a sink failed, or whose lines could not be said
  run_4 : (plan : Plan) (run : RunCame) (said : Result (Unit {0}) OutsideFault) → Came4 plan (Ran run) said → SinkCause old new
  run_4 Nothing run said c = absurd c.may
  run_4 (OneFile place out) run said c = absurd c.may
  run_4 (Generated number count) run said c = absurd c.may
  run_4 (Described conf rows) run said c = elim (one_4 (run_code run) (said_code said) (sym c.answers)) [ inl h ↦ by_run h | inr h ↦ by_said said c.says h ]
    where
      parties : Parties
      parties = parties_of (Described conf rows)

      found : (p : List ℕ) × (has p (failed_sinks parties (Ran run)) ≡ true) → SinkCause old new
      found f = sink_cause old new (times f.0 (tried_sinks parties (Ran run))) f.0 (has f.0 (failed_sinks parties (Ran run))) f.1 (c.comes.sinks f.0)

      by_run : run_code run ≡ 4 → SinkCause old new
      by_run h =
          let inputs = worst (map (λ (x : InputCame). end_code x.end) run.inputs) in
          let stages = worst (map stage_code run.stages) in
          let outputs = worst (map output_code run.outputs) in
          elim (one_4 inputs (max (fault_code run.log) (max stages outputs)) h) [
            | inl x ↦ absurd (let z = ends_4 0 run.inputs x in omega (arith, z))
            | inr k ↦ elim (one_4 (fault_code run.log) (max stages outputs) k) [
              | inl l ↦ found (log_4 conf.order_log run.log (arrivals_in conf run) run.order old.sink new.sink (at_of parties.outputs) (map output_failed run.outputs) c.comes.leaves.logged l)
              | inr j ↦ elim (one_4 stages outputs j) [
                | inl x ↦ absurd (let z = stages_4 0 run.stages x in omega (arith, z))
                | inr x ↦ elim (outputs_4 _ 0 0 parties.outputs run.outputs c.comes.leaves.holds x) [
                  | inl z ↦ absurd (omega (arith, z))
                  | inr f ↦ found (f.0, beside_outputs conf.order_log (has_failed run.log) (at_of parties.outputs) (map output_failed run.outputs) f.0 f.1)
                ]
              ]
            ]
          ]

      by_said : (said : Result (Unit {0}) OutsideFault) → Said said old.say new.say (lines_of (Described conf rows) (Ran run)) → said_code said ≡ 4 → SinkCause old new
      by_said (Ok done) s h = absurd (omega (arith, h))
      by_said (Err fault.Failed) s h = inr s.1.1
      by_said (Err fault.NoMemory) s h = absurd (omega (arith, h))

  came_4 : (plan : Plan) (came : Came) (said : Result (Unit {0}) OutsideFault) → Came4 plan came said → SinkCause old new
  came_4 plan BadWords said c = absurd c.may
  came_4 plan Fine said c = absurd c.may
  came_4 plan (Refused r n m) said c = refusal_4 plan r n m said c
  came_4 plan (Ran run) said c = run_4 plan run said c
  came_4 plan (Loaded run lengths) said c = absurd c.may

pub cause_of_4 : {S : Type 0} (left : S → Option (List Scripted)) (faults : S → ℕ) (file : List ℕ) (old new : Seen) → Collects left faults file old new 4 → SinkCause old new
cause_of_4 left faults file old new k = came_4 left faults file old new k.0 k.1 k.2 k.3
