-- Which status comes where nothing failed.
use Rattle.std.proofs.Common.{◌≡◌, ◌⊎◌, inl, inr, ℕ, zero, suc, ◌+◌, ◌<◌, ◌≤◌, max, Bool, true, false, List, [], ◌∷◌, map, Option, Some, None, refl, ap, sym, subst, ◌∙◌, arith}
use Rattle.std.specs.Prelude.{Result, Ok, Err, fold, slice_get}
use Rattle.arrival_spec.specs.declared.event.Scripted.{Scripted}
use Rattle.config_spec.specs.declared.conf.Conf.{Conf}
use Rattle.text_spec.specs.declared.element.Element.{Element}
use Rattle.words_spec.specs.Commands.Command.{Generate}
use Rattle.site_io.specs.Outside.{Rose}
use Rattle.site_io.specs.Seen.{Seen, TextSeen}
use Rattle.site_io.specs.declared.outside.OutsideFault.{OutsideFault}
use Rattle.site_io.specs.declared.outside.OutsideFault.TheVariants as fault
use Rattle.result_spec.specs.Result.{ComeTo, ExceedsFor}
use Rattle.call_spec.specs.declared.end.InputEnd.{InputEnd}
use Rattle.call_spec.specs.declared.end.InputEnd.TheVariants as end
use Rattle.call_spec.specs.declared.end.OutputFault.{OutputFault}
use Rattle.call_spec.specs.declared.end.OutputFault.TheVariants as output
use Rattle.call_spec.specs.Pairs.{Each}
use Rattle.call_spec.specs.Came.{Party, Refusal, InputCame, RunCame, Came}
use Rattle.call_spec.specs.Came.Refusal.{NoText, BadDescription, BadElements, NoSource, NoLog, NoOutput, NoMemory}
use Rattle.call_spec.specs.Came.Came.{BadWords, Fine, Refused, Ran, Loaded}
use Rattle.call_spec.specs.Causes.{IsAccepted, IsCalm, RunsOutOfIds}
use Rattle.call_spec.specs.Plan.{Plan, parties_of}
use Rattle.call_spec.specs.Plan.Plan.{Nothing, OneFile, Described, Generated}
use Rattle.call_spec.specs.Ends.{output_failed}
use Rattle.call_spec.specs.Leaves.{GaveLoad, Gave, HasLength, HoldsResult, given_of}
use Rattle.call_spec.specs.Lines.{Said, lines_of}
use Rattle.call_spec.specs.Status.{end_code, fault_code, output_code, stage_code, said_code, wanted_code, refusal_code, worst, run_code}
use Rattle.call_spec.specs.Call.{Calls, CallsAs, Collects, IsOfCollect, MayCome}
use Rattle.call_spec.proofs.CauseLemmas.{cause_of_3, cause_of_4}

-- ---- statuses of runs: 0, or 3 to 6

abbrev IsRunCode : ℕ → Type 0
IsRunCode n = (n ≡ 0) ⊎ ((3 ≤ n) × (n ≤ 6))

greater : (a b : ℕ) → IsRunCode a → IsRunCode b → IsRunCode (max a b)
greater a b (inl x) (inl y) = inl (omega (arith, x, y))
greater a b (inl x) (inr y) = inr (omega (arith, x, y.0), omega (arith, x, y.1))
greater a b (inr x) (inl y) = inr (omega (arith, x.0, y), omega (arith, x.1, y))
greater a b (inr x) (inr y) = inr (omega (arith, x.0, y.0), omega (arith, x.1, y.1))

all_codes : {A : Type 0} (code : A → ℕ) → ((a : A) → IsRunCode (code a)) → (m : ℕ) (xs : List A) → IsRunCode m → IsRunCode (fold max m (map code xs))
all_codes code each m [] p = p
all_codes code each m (x ∷ xs) p = all_codes code each (max m (code x)) xs (greater m (code x) p (each x))

end_is : (e : InputEnd) → IsRunCode (end_code e)
end_is end.End = inl refl
end_is end.Failed = inr (omega arith, omega arith)
end_is end.Limit = inr (omega arith, omega arith)
end_is end.Memory = inr (omega arith, omega arith)

log_is : (f : Option OutsideFault) → IsRunCode (fault_code f)
log_is None = inl refl
log_is (Some fault.Failed) = inr (omega arith, omega arith)
log_is (Some fault.NoMemory) = inr (omega arith, omega arith)

output_is : (f : Option OutputFault) → IsRunCode (output_code f)
output_is None = inl refl
output_is (Some output.Failed) = inr (omega arith, omega arith)
output_is (Some output.Limit) = inr (omega arith, omega arith)
output_is (Some output.NoMemory) = inr (omega arith, omega arith)

stage_is : (b : Bool) → IsRunCode (stage_code b)
stage_is true = inr (omega arith, omega arith)
stage_is false = inl refl

said_is : (s : Result (Unit {0}) OutsideFault) → IsRunCode (said_code s)
said_is (Ok done) = inl refl
said_is (Err fault.Failed) = inr (omega arith, omega arith)
said_is (Err fault.NoMemory) = inr (omega arith, omega arith)

wanted_is : (s : Result (Unit {0}) OutsideFault) → IsRunCode (wanted_code s)
wanted_is (Ok done) = inl refl
wanted_is (Err fault.Failed) = inl refl
wanted_is (Err fault.NoMemory) = inr (omega arith, omega arith)

run_is : (run : RunCame) → IsRunCode (run_code run)
run_is run =
    greater (worst (map (λ (c : InputCame). end_code c.end) run.inputs)) (max (fault_code run.log) (max (worst (map stage_code run.stages)) (worst (map output_code run.outputs))))
    (all_codes (λ (c : InputCame). end_code c.end) (λ c. end_is c.end) 0 run.inputs (inl refl))
    (greater (fault_code run.log) (max (worst (map stage_code run.stages)) (worst (map output_code run.outputs))) (log_is run.log)
    (greater (worst (map stage_code run.stages)) (worst (map output_code run.outputs)) (all_codes stage_code stage_is 0 run.stages (inl refl)) (all_codes output_code output_is 0 run.outputs (inl refl))))

-- ---- 5

-- of a maximum that is 5, one is 5
one_5 : (a b : ℕ) → max a b ≡ 5 → (a ≡ 5) ⊎ (b ≡ 5)
one_5 zero b e = inr (omega (arith, e))
one_5 (suc zero) b e = inr (omega (arith, e))
one_5 (suc (suc zero)) b e = inr (omega (arith, e))
one_5 (suc (suc (suc zero))) b e = inr (omega (arith, e))
one_5 (suc (suc (suc (suc zero)))) b e = inr (omega (arith, e))
one_5 (suc (suc (suc (suc (suc zero))))) b e = inl refl
one_5 (suc (suc (suc (suc (suc (suc a)))))) b e = absurd (omega (arith, e))

log_5 : (f : Option OutsideFault) → fault_code f ≡ 5 → ⊥
log_5 None e = omega (arith, e)
log_5 (Some fault.Failed) e = omega (arith, e)
log_5 (Some fault.NoMemory) e = omega (arith, e)

said_5 : (s : Result (Unit {0}) OutsideFault) → said_code s ≡ 5 → ⊥
said_5 (Ok done) e = omega (arith, e)
said_5 (Err fault.Failed) e = omega (arith, e)
said_5 (Err fault.NoMemory) e = omega (arith, e)

stages_5 : (m : ℕ) (stages : List Bool) → fold max m (map stage_code stages) ≡ 5 → m ≡ 5
stages_5 m [] e = e
stages_5 m (b ∷ stages) e = by_stage b (stages_5 (max m (stage_code b)) stages e)
  where
    by_stage : (b : Bool) → max m (stage_code b) ≡ 5 → m ≡ 5
    by_stage true h = absurd (omega (arith, h))
    by_stage false h = omega (arith, h)

-- no input of a description ends at a limit
inputs_5 : {S : Type 0} (left : S → Option (List Scripted)) (faults : S → ℕ) (conf : Conf) (rows : List Element) (old new : Seen) (n m : ℕ) (parties : List Party) (inputs : List InputCame) → Each (Gave left faults (Described conf rows) old new) n parties inputs
    → fold max m (map (λ (c : InputCame). end_code c.end) inputs) ≡ 5 → m ≡ 5
inputs_5 left faults conf rows old new n m [] [] g e = e
inputs_5 left faults conf rows old new n m [] (c ∷ inputs) g e = absurd g
inputs_5 left faults conf rows old new n m (party ∷ parties) [] g e = absurd g
inputs_5 left faults conf rows old new n m (party ∷ parties) (c ∷ inputs) g e = by_end c.end refl (inputs_5 left faults conf rows old new (suc n) (max m (end_code c.end)) parties inputs g.1 e)
  where
    by_end : (x : InputEnd) → c.end ≡ x → max m (end_code x) ≡ 5 → m ≡ 5
    by_end end.End is h = omega (arith, h)
    by_end end.Failed is h = omega (arith, h)
    by_end end.Limit is h = absurd (rw is at g.0.ends)
    by_end end.Memory is h = absurd (omega (arith, h))

-- an output that ended at its limit
outputs_5 : (P : ℕ → Party → Option OutputFault → Type 0) (n m : ℕ) (parties : List Party) (faults : List (Option OutputFault)) → Each P n parties faults → fold max m (map output_code faults) ≡ 5
    → (m ≡ 5) ⊎ ((j : ℕ) × (party : Party) × P j party (Some output.Limit))
outputs_5 P n m [] [] g e = inl e
outputs_5 P n m [] (f ∷ faults) g e = absurd g
outputs_5 P n m (party ∷ parties) [] g e = absurd g
outputs_5 P n m (party ∷ parties) (f ∷ faults) g e = elim (outputs_5 P (suc n) (max m (output_code f)) parties faults g.1 e) [
  | inl h ↦ by_fault f refl h
  | inr found ↦ inr found
]
  where
    by_fault : (x : Option OutputFault) → f ≡ x → max m (output_code x) ≡ 5 → (m ≡ 5) ⊎ ((j : ℕ) × (party : Party) × P j party (Some output.Limit))
    by_fault None is h = inl (omega (arith, h))
    by_fault (Some output.Failed) is h = inl (omega (arith, h))
    by_fault (Some output.Limit) is h = inr (n, party, subst (λ x. P n party x) is g.0)
    by_fault (Some output.NoMemory) is h = absurd (omega (arith, h))

module _ {S : Type 0} (left : S → Option (List Scripted)) (faults : S → ℕ) (file : List ℕ) (old new : Seen) where
  abbrev CameTo : ℕ → Plan → Came → Result (Unit {0}) OutsideFault → Type 0
  CameTo status plan came said = CallsAs left faults (λ text plan came. IsOfCollect text file plan came) plan came said old new status

  refusal_5 : (r : Refusal) → refusal_code r ≡ 5 → ⊥
  refusal_5 (NoText name) h = omega (arith, h)
  refusal_5 (BadDescription f) h = omega (arith, h)
  refusal_5 (BadElements name f) h = omega (arith, h)
  refusal_5 (NoSource i) h = omega (arith, h)
  refusal_5 NoLog h = omega (arith, h)
  refusal_5 (NoOutput j) h = omega (arith, h)
  refusal_5 NoMemory h = omega (arith, h)

  refused_5 : (r : Refusal) (said : Result (Unit {0}) OutsideFault) → 5 ≡ max (refusal_code r) (wanted_code said) → ⊥
  refused_5 r (Ok done) e = refusal_5 r (omega (arith, e))
  refused_5 r (Err fault.Failed) e = refusal_5 r (omega (arith, e))
  refused_5 r (Err fault.NoMemory) e = omega (arith, e)

  run_5 : (plan : Plan) (run : RunCame) (said : Result (Unit {0}) OutsideFault) → CameTo 5 plan (Ran run) said → RunsOutOfIds left faults file old new
  run_5 Nothing run said c = absurd c.may
  run_5 (OneFile place out) run said c = absurd c.may
  run_5 (Generated number count) run said c = absurd c.may
  run_5 (Described conf rows) run said c = elim (one_5 (run_code run) (said_code said) (sym c.answers)) [ inl h ↦ by_run h | inr h ↦ absurd (said_5 said h) ]
    where
      by_run : run_code run ≡ 5 → RunsOutOfIds left faults file old new
      by_run h =
          let stages = worst (map stage_code run.stages) in
          let outputs = worst (map output_code run.outputs) in
          elim (one_5 (worst (map (λ (x : InputCame). end_code x.end) run.inputs)) (max (fault_code run.log) (max stages outputs)) h) [
            | inl x ↦ absurd (let z = inputs_5 left faults conf rows old new 0 0 (parties_of (Described conf rows)).inputs run.inputs c.comes.leaves.gave x in omega (arith, z))
            | inr k ↦ elim (one_5 (fault_code run.log) (max stages outputs) k) [
              | inl l ↦ absurd (log_5 run.log l)
              | inr o ↦ elim (one_5 stages outputs o) [
                | inl x ↦ absurd (let z = stages_5 0 run.stages x in omega (arith, z))
                | inr x ↦ elim (outputs_5 _ 0 0 (parties_of (Described conf rows)).outputs run.outputs c.comes.leaves.holds x) [
                  | inl z ↦ absurd (omega (arith, z))
                  | inr f ↦ record { conf = conf; rows = rows; run = run; plan = c.may; leaves = c.comes.leaves; output = f.0; items = f.2.items; come = f.2.come; exceeds = f.2.ends }
                ]
              ]
            ]
          ]

  came_5 : (plan : Plan) (came : Came) (said : Result (Unit {0}) OutsideFault) → CameTo 5 plan came said → RunsOutOfIds left faults file old new
  came_5 plan BadWords said c = absurd c.may
  came_5 plan Fine said c = absurd c.may
  came_5 plan (Refused r n m) said c = absurd (refused_5 r said c.answers)
  came_5 plan (Ran run) said c = run_5 plan run said c
  came_5 plan (Loaded run lengths) said c = absurd c.may

  -- ---- no other

  -- but for the faults of texts, a status is one of a run
  other_code : (plan : Plan) (came : Came) (said : Result (Unit {0}) OutsideFault) (status : ℕ) → IsAccepted old.text file → CameTo status plan came said → IsRunCode status
  other_code plan BadWords said status a c = absurd c.may
  other_code plan Fine said status a c = absurd c.may
  other_code plan (Refused (NoText name) n m) said status a c = subst IsRunCode (sym c.answers) (greater 3 (wanted_code said) (inr (omega arith, omega arith)) (wanted_is said))
  other_code plan (Refused (BadDescription f) n m) said status a c = absurd (a.description f c.may.1)
  other_code plan (Refused (BadElements name f) n m) said status a c = absurd (a.elements name f c.may.1)
  other_code plan (Refused (NoSource i) n m) said status a c = subst IsRunCode (sym c.answers) (greater 3 (wanted_code said) (inr (omega arith, omega arith)) (wanted_is said))
  other_code plan (Refused NoLog n m) said status a c = subst IsRunCode (sym c.answers) (greater 4 (wanted_code said) (inr (omega arith, omega arith)) (wanted_is said))
  other_code plan (Refused (NoOutput j) n m) said status a c = subst IsRunCode (sym c.answers) (greater 4 (wanted_code said) (inr (omega arith, omega arith)) (wanted_is said))
  other_code plan (Refused NoMemory n m) said status a c = subst IsRunCode (sym c.answers) (greater 6 (wanted_code said) (inr (omega arith, omega arith)) (wanted_is said))
  other_code plan (Ran run) said status a c = subst IsRunCode (sym c.answers) (greater (run_code run) (said_code said) (run_is run) (said_is said))
  other_code plan (Loaded run lengths) said status a c = absurd c.may

pub limit_of_5 : {S : Type 0} (left : S → Option (List Scripted)) (faults : S → ℕ) (file : List ℕ) (old new : Seen) → Collects left faults file old new 5 → RunsOutOfIds left faults file old new
limit_of_5 left faults file old new k = came_5 left faults file old new k.0 k.1 k.2 k.3

abbrev Ended : {S : Type 0} (left : S → Option (List Scripted)) (faults : S → ℕ) (file : List ℕ) (old new : Seen) (status : ℕ) → Type 0
Ended left faults file old new status = (status ≡ 0) ⊎ ((status ≡ 6) ⊎ RunsOutOfIds left faults file old new)

pub complete : {S : Type 0} (left : S → Option (List Scripted)) (faults : S → ℕ) (file : List ℕ) (old new : Seen) (status : ℕ) → Collects left faults file old new status → IsCalm old new → IsAccepted old.text file → Ended left faults file old new status
complete {S} left faults file old new status k calm a = by_code status k (other_code left faults file old new k.0 k.1 k.2 status a k.3)
  where
    by_code : (status : ℕ) → Collects left faults file old new status → IsRunCode status → Ended left faults file old new status
    by_code zero k c = inl refl
    by_code (suc zero) k (inl z) = absurd (omega (arith, z))
    by_code (suc zero) k (inr b) = absurd (omega (arith, b.0))
    by_code (suc (suc zero)) k (inl z) = absurd (omega (arith, z))
    by_code (suc (suc zero)) k (inr b) = absurd (omega (arith, b.0))
    by_code (suc (suc (suc zero))) k c = absurd (elim (cause_of_3 left faults file old new k) [ inl t ↦ calm.texts t.0 t.1 | inr p ↦ calm.places p.0 p.1 ])
    by_code (suc (suc (suc (suc zero)))) k c = absurd (elim (cause_of_4 left faults file old new k) [ inl s ↦ calm.sinks s.0 s.1 | inr y ↦ calm.say y ])
    by_code (suc (suc (suc (suc (suc zero))))) k c = inr (inr (limit_of_5 left faults file old new k))
    by_code (suc (suc (suc (suc (suc (suc zero)))))) k c = inr (inl refl)
    by_code (suc (suc (suc (suc (suc (suc (suc n))))))) k (inl z) = absurd (omega (arith, z))
    by_code (suc (suc (suc (suc (suc (suc (suc n))))))) k (inr b) = absurd (omega (arith, b.1))

-- ---- generated load

-- a status of load: 0, or 5 or 6
abbrev IsLoadCode : ℕ → Type 0
IsLoadCode n = (n ≡ 0) ⊎ ((n ≡ 5) ⊎ (n ≡ 6))

one_greater : (a b : ℕ) → IsLoadCode a → IsLoadCode b → IsLoadCode (max a b)
one_greater a b (inl x) (inl y) = inl (omega (arith, x, y))
one_greater a b (inl x) (inr (inl y)) = inr (inl (omega (arith, x, y)))
one_greater a b (inl x) (inr (inr y)) = inr (inr (omega (arith, x, y)))
one_greater a b (inr (inl x)) (inl y) = inr (inl (omega (arith, x, y)))
one_greater a b (inr (inl x)) (inr (inl y)) = inr (inl (omega (arith, x, y)))
one_greater a b (inr (inl x)) (inr (inr y)) = inr (inr (omega (arith, x, y)))
one_greater a b (inr (inr x)) (inl y) = inr (inr (omega (arith, x, y)))
one_greater a b (inr (inr x)) (inr (inl y)) = inr (inr (omega (arith, x, y)))
one_greater a b (inr (inr x)) (inr (inr y)) = inr (inr (omega (arith, x, y)))

load_stages : (m : ℕ) (stages : List Bool) → IsLoadCode m → IsLoadCode (fold max m (map stage_code stages))
load_stages m [] p = p
load_stages m (true ∷ stages) p = load_stages (max m 6) stages (one_greater m 6 p (inr (inr refl)))
load_stages m (false ∷ stages) p = load_stages (max m 0) stages (one_greater m 0 p (inl refl))

load_inputs : (number count n m : ℕ) (parties : List Party) (inputs : List InputCame) → Each (GaveLoad number count) n parties inputs → IsLoadCode m → IsLoadCode (fold max m (map (λ (c : InputCame). end_code c.end) inputs))
load_inputs number count n m [] [] g p = p
load_inputs number count n m [] (c ∷ inputs) g p = absurd g
load_inputs number count n m (party ∷ parties) [] g p = absurd g
load_inputs number count n m (party ∷ parties) (c ∷ inputs) g p = load_inputs number count (suc n) (max m (end_code c.end)) parties inputs g.1 (by_end c.end refl)
  where
    by_end : (x : InputEnd) → c.end ≡ x → IsLoadCode (max m (end_code x))
    by_end end.End is = one_greater m 0 p (inl refl)
    by_end end.Failed is = absurd (let t : true ≡ false = sym (rw is at g.0.ends).0 ∙ g.0.sound in cc)
    by_end end.Limit is = absurd (rw is at g.0.ends)
    by_end end.Memory is = one_greater m 6 p (inr (inr refl))

load_outputs : (run : RunCame) (n m : ℕ) (faults : List (Option OutputFault)) (lengths : List ℕ) → Each (HasLength run) n faults lengths → IsLoadCode m → IsLoadCode (fold max m (map output_code faults))
load_outputs run n m [] [] g p = p
load_outputs run n m [] (x ∷ lengths) g p = absurd g
load_outputs run n m (f ∷ faults) [] g p = absurd g
load_outputs run n m (f ∷ faults) (x ∷ lengths) g p = load_outputs run (suc n) (max m (output_code f)) faults lengths g.1 (by_fault f refl)
  where
    by_fault : (x : Option OutputFault) → f ≡ x → IsLoadCode (max m (output_code x))
    by_fault None is = one_greater m 0 p (inl refl)
    by_fault (Some output.Failed) is = absurd (let t : true ≡ false = sym (ap output_failed is) ∙ g.0.sound in cc)
    by_fault (Some output.Limit) is = one_greater m 5 p (inr (inl refl))
    by_fault (Some output.NoMemory) is = one_greater m 6 p (inr (inr refl))

abbrev LoadEnds : Seen → Seen → ℕ → Type 0
LoadEnds old new status = (status ≡ 0) ⊎ ((status ≡ 4) × Rose old.say.faults new.say.faults ⊎ ((status ≡ 5) ⊎ (status ≡ 6)))

load_said : (plan : Plan) (came : Came) (code : ℕ) (said : Result (Unit {0}) OutsideFault) (old new : Seen) (status : ℕ) → IsLoadCode code → Said said old.say new.say (lines_of plan came) → status ≡ max code (said_code said) → LoadEnds old new status
load_said plan came code (Ok done) old new status (inl x) s e = inl (omega (arith, e, x))
load_said plan came code (Ok done) old new status (inr (inl x)) s e = inr (inr (inl (omega (arith, e, x))))
load_said plan came code (Ok done) old new status (inr (inr x)) s e = inr (inr (inr (omega (arith, e, x))))
load_said plan came code (Err fault.Failed) old new status (inl x) s e = inr (inl (omega (arith, e, x), s.1.1))
load_said plan came code (Err fault.Failed) old new status (inr (inl x)) s e = inr (inr (inl (omega (arith, e, x))))
load_said plan came code (Err fault.Failed) old new status (inr (inr x)) s e = inr (inr (inr (omega (arith, e, x))))
load_said plan came code (Err fault.NoMemory) old new status (inl x) s e = inr (inr (inr (omega (arith, e, x))))
load_said plan came code (Err fault.NoMemory) old new status (inr (inl x)) s e = inr (inr (inr (omega (arith, e, x))))
load_said plan came code (Err fault.NoMemory) old new status (inr (inr x)) s e = inr (inr (inr (omega (arith, e, x))))

module _ {S : Type 0} (left : S → Option (List Scripted)) (faults : S → ℕ) (number count : ℕ) (old new : Seen) (status : ℕ) where
  abbrev CameOf : Plan → Came → Result (Unit {0}) OutsideFault → Type 0
  CameOf plan came said = CallsAs left faults (MayCome (Generate number count)) plan came said old new status

  refused_load : (x : ℕ) (said : Result (Unit {0}) OutsideFault) → status ≡ max 6 (wanted_code said) → status ≡ 6
  refused_load x (Ok done) e = omega (arith, e)
  refused_load x (Err fault.Failed) e = omega (arith, e)
  refused_load x (Err fault.NoMemory) e = omega (arith, e)

  loaded : (plan : Plan) (run : RunCame) (lengths : List ℕ) (said : Result (Unit {0}) OutsideFault) → CameOf plan (Loaded run lengths) said → LoadEnds old new status
  loaded Nothing run lengths said c = absurd c.comes.leaves
  loaded (OneFile place out) run lengths said c = absurd c.comes.leaves
  loaded (Described conf rows) run lengths said c = absurd c.comes.leaves
  loaded (Generated n m) run lengths said c =
      let l = c.comes.leaves in
      let inputs = worst (map (λ (x : InputCame). end_code x.end) run.inputs) in
      let stages = worst (map stage_code run.stages) in
      let outputs = worst (map output_code run.outputs) in
      load_said (Generated n m) (Loaded run lengths) (run_code run) said old new status
      (one_greater inputs (max (fault_code run.log) (max stages outputs)) (load_inputs n m 0 0 (parties_of (Generated n m)).inputs run.inputs l.gave (inl refl))
      (one_greater (fault_code run.log) (max stages outputs) (inl (ap fault_code l.unlogged))
      (one_greater stages outputs (load_stages 0 run.stages (inl refl)) (load_outputs run 0 0 run.outputs lengths l.lengths_are (inl refl)))))
      c.says c.answers

  came_of : (plan : Plan) (came : Came) (said : Result (Unit {0}) OutsideFault) → CameOf plan came said → LoadEnds old new status
  came_of plan BadWords said c = absurd c.may
  came_of plan Fine said c = absurd c.may
  came_of plan (Refused (NoText name) n m) said c = absurd c.may
  came_of plan (Refused (BadDescription f) n m) said c = absurd c.may
  came_of plan (Refused (BadElements name f) n m) said c = absurd c.may
  came_of plan (Refused (NoSource i) n m) said c = absurd c.may
  came_of plan (Refused NoLog n m) said c = absurd c.may
  came_of plan (Refused (NoOutput j) n m) said c = absurd c.may
  came_of plan (Refused NoMemory n m) said c = inr (inr (inr (refused_load 0 said c.answers)))
  came_of plan (Ran run) said c = absurd c.may
  came_of plan (Loaded run lengths) said c = loaded plan run lengths said c

pub load_ends : {S : Type 0} (left : S → Option (List Scripted)) (faults : S → ℕ) (number count : ℕ) (old new : Seen) (status : ℕ) → Calls left faults (Generate number count) old new status → LoadEnds old new status
load_ends left faults number count old new status k = came_of left faults number count old new status k.0 k.1 k.2 k.3
