-- What a call promises.
use Rattle.std.specs.Prelude.{ℕ, ◌≡◌, ◌⊎◌, ⊤, List, Option, Result, Ok, Err}
use Rattle.arrival_spec.specs.declared.event.Scripted.{Scripted}
use Rattle.site_io.specs.declared.outside.OutsideFault.{OutsideFault}
use Rattle.site_io.specs.Seen.{Seen, TextSeen}
use Rattle.words_spec.specs.Commands.{Command}
use Rattle.words_spec.specs.Commands.Command.{Direct, Check, Collect, Generate}
use Rattle.words_spec.specs.Commands.Command.{Refused as NoCommand}
use Rattle.call_spec.specs.Came.{Refusal, Came}
use Rattle.call_spec.specs.Came.Refusal.{NoText, BadDescription, BadElements, NoSource, NoLog, NoOutput, NoMemory}
use Rattle.call_spec.specs.Came.Came.{BadWords, Fine, Refused, Ran, Loaded}
use Rattle.call_spec.specs.Plan.{Plan}
use Rattle.call_spec.specs.Plan.Plan.{Nothing, OneFile, Described, Generated}
use Rattle.call_spec.specs.Texts.{Describes, HasTable, Judges}
use Rattle.call_spec.specs.Leaves.{Comes}
use Rattle.call_spec.specs.Lines.{Said, lines_of}
use Rattle.call_spec.specs.Status.{status_of}

-- what may come of `direct`: it reads no text
abbrev pub IsOfDirect : Came → Type 0
IsOfDirect BadWords = ⊥
IsOfDirect Fine = ⊥
IsOfDirect (Refused (NoText name) n m) = ⊥
IsOfDirect (Refused (BadDescription fault) n m) = ⊥
IsOfDirect (Refused (BadElements name fault) n m) = ⊥
IsOfDirect (Refused (NoSource i) n m) = ⊤
IsOfDirect (Refused NoLog n m) = ⊤
IsOfDirect (Refused (NoOutput j) n m) = ⊤
IsOfDirect (Refused NoMemory n m) = ⊤
IsOfDirect (Ran run) = ⊤
IsOfDirect (Loaded run lengths) = ⊥

-- what may come of `check`: what its texts come to
abbrev pub IsOfCheck : (List ℕ → TextSeen) → List ℕ → Came → Type 0
IsOfCheck text file BadWords = ⊥
IsOfCheck text file Fine = Judges text file (Ok tt)
IsOfCheck text file (Refused refusal n m) = Judges text file (Err refusal)
IsOfCheck text file (Ran run) = ⊥
IsOfCheck text file (Loaded run lengths) = ⊥

-- what FILE says is run: its description, with the elements of the files that it names
abbrev pub IsPlanOf : (List ℕ → TextSeen) → List ℕ → Plan → Type 0
IsPlanOf text file Nothing = ⊥
IsPlanOf text file (OneFile place out) = ⊥
IsPlanOf text file (Described conf rows) = Describes text file conf × HasTable text conf.elements rows
IsPlanOf text file (Generated number count) = ⊥

-- a text's refusal comes before anything is planned
abbrev pub IsOfTexts : (List ℕ → TextSeen) → List ℕ → Plan → Refusal → Type 0
IsOfTexts text file plan refusal = (plan ≡ Nothing) × Judges text file (Err refusal)

-- what may come of `collect`: its texts' first fault, and else what comes of running its description
abbrev pub IsOfCollect : (List ℕ → TextSeen) → List ℕ → Plan → Came → Type 0
IsOfCollect text file plan BadWords = ⊥
IsOfCollect text file plan Fine = ⊥
IsOfCollect text file plan (Refused (NoText name) n m) = IsOfTexts text file plan (NoText name)
IsOfCollect text file plan (Refused (BadDescription fault) n m) = IsOfTexts text file plan (BadDescription fault)
IsOfCollect text file plan (Refused (BadElements name fault) n m) = IsOfTexts text file plan (BadElements name fault)
IsOfCollect text file plan (Refused (NoSource i) n m) = IsPlanOf text file plan
IsOfCollect text file plan (Refused NoLog n m) = IsPlanOf text file plan
IsOfCollect text file plan (Refused (NoOutput j) n m) = IsPlanOf text file plan
IsOfCollect text file plan (Refused NoMemory n m) = (plan ≡ Nothing) ⊎ IsPlanOf text file plan
IsOfCollect text file plan (Ran run) = IsPlanOf text file plan
IsOfCollect text file plan (Loaded run lengths) = ⊥

-- what may come of `generate`: its load runs, unless memory is wanted before that
abbrev pub IsOfGenerate : ℕ → ℕ → Plan → Came → Type 0
IsOfGenerate number count plan BadWords = ⊥
IsOfGenerate number count plan Fine = ⊥
IsOfGenerate number count plan (Refused (NoText name) n m) = ⊥
IsOfGenerate number count plan (Refused (BadDescription fault) n m) = ⊥
IsOfGenerate number count plan (Refused (BadElements name fault) n m) = ⊥
IsOfGenerate number count plan (Refused (NoSource i) n m) = ⊥
IsOfGenerate number count plan (Refused NoLog n m) = ⊥
IsOfGenerate number count plan (Refused (NoOutput j) n m) = ⊥
IsOfGenerate number count plan (Refused NoMemory n m) = plan ≡ Nothing
IsOfGenerate number count plan (Ran run) = ⊥
IsOfGenerate number count plan (Loaded run lengths) = plan ≡ Generated number count

-- what may come of a command, and what it runs: words of none are refused
abbrev pub MayCome : Command → (List ℕ → TextSeen) → Plan → Came → Type 0
MayCome (Direct place out) text plan came = (plan ≡ OneFile place out) × IsOfDirect came
MayCome (Check file) text plan came = (plan ≡ Nothing) × IsOfCheck text file came
MayCome (Collect file) text plan came = IsOfCollect text file plan came
MayCome (Generate number count) text plan came = IsOfGenerate number count plan came
MayCome NoCommand text plan came = (plan ≡ Nothing) × (came ≡ BadWords)

module _ {S : Type 0} (left : S → Option (List Scripted)) (faults : S → ℕ) where
  -- What came of a call gives all that the Site shows after it, what was said, and the status.
  pub record CallsAs (allowed : (List ℕ → TextSeen) → Plan → Came → Type 0) (plan : Plan) (came : Came) (said : Result (Unit {0}) OutsideFault) (old new : Seen) (status : ℕ) : Type 0 where
    pub may : allowed old.text plan came
    pub comes : Comes left faults plan came old new
    pub says : Said said old.say new.say (lines_of plan came)
    pub answers : status ≡ status_of came said

  -- of a call of which this may come
  abbrev pub CallsOf : ((List ℕ → TextSeen) → Plan → Came → Type 0) → Seen → Seen → ℕ → Type 0
  CallsOf allowed old new status = (plan : Plan) × (came : Came) × (said : Result (Unit {0}) OutsideFault) × CallsAs allowed plan came said old new status

  abbrev pub Calls : Command → Seen → Seen → ℕ → Type 0
  Calls command old new status = CallsOf (MayCome command) old new status

  -- what the run of a description promises
  abbrev pub Collects : List ℕ → Seen → Seen → ℕ → Type 0
  Collects file old new status = Calls (Collect file) old new status
