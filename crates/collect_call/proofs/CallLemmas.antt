-- What a call of `collect` promises, from what came of its description.
use Rattle.std.proofs.Common.{◌≡◌, inl, inr, ℕ, ◌≤◌, Bool, true, false, max, List, [], ◌∷◌, ◌++◌, length, map, Option, Ok, Err, refl, ap, sym, subst, ◌∙◌, arith}
use Rattle.std.specs.Prelude.{Result}
use Rattle.arrival_spec.specs.declared.event.Scripted.{Scripted}
use Rattle.config_spec.specs.declared.conf.Conf.{Conf}
use Rattle.config_spec.specs.Description.{description}
use Rattle.text_spec.specs.declared.element.Element.{Element}
use Rattle.site_io.specs.declared.outside.OutsideFault.{OutsideFault}
use Rattle.site_io.specs.Seen.{Seen, TextSeen}
use Rattle.call_spec.specs.Came.{Came, RunCame}
use Rattle.call_spec.specs.Came.{Refusal as Reason}
use Rattle.call_spec.specs.Came.Refusal.{NoText, BadDescription, BadElements, NoSource, NoLog, NoOutput, NoMemory}
use Rattle.call_spec.specs.Came.Came.{BadWords, Fine, Refused, Ran, Loaded}
use Rattle.call_spec.specs.Call.{Collects, CallsOf, IsOfCollect, MayCome}
use Rattle.call_spec.specs.Leaves.{Comes}
use Rattle.call_spec.specs.Plan.{Plan, no_parties, described_parties}
use Rattle.call_spec.specs.Plan.Plan.{Nothing, OneFile, Described}
use Rattle.call_spec.specs.Status.{said_code}
use Rattle.call_spec.specs.Texts.{Describes, HasTable, Judges}
use Rattle.words_spec.specs.Commands.Command.{Collect}
use Rattle.run_lines.specs.declared.ended.Ended.{Ended}
use Rattle.run_lines.specs.Ended.{run_text, ended_code}
use Rattle.run_lines.specs.Says.{Says}
use Rattle.site_openings.specs.declared.all.Unopened.{Unopened}
use Rattle.site_openings.specs.declared.all.Unopened.TheVariants as opening
use Rattle.site_openings.specs.All as opened
use Rattle.site_openings.specs.All.{IsRefused}
use Rattle.run_came.specs.Told.{TellsRun}
use Rattle.run_came.proofs.ToldLemmas.{code_told, lines_told}
use Rattle.described_texts.specs.declared.verdict.Refusal.{Refusal}
use Rattle.described_texts.specs.declared.verdict.Refusal.TheVariants as refusal
use Rattle.described_texts.specs.Read.{reason_of, CountsTexts, KeepsRest}
use Rattle.described_texts.specs.Reports.{ReportsRefusal}
use Rattle.described_texts.proofs.KeptLemmas.{still, unsunk, unread, seen_same, calls_said, calls_refused, comes_refused}
use Rattle.collect_call.specs.Runs.{IsOfRun, RunsOf}

module _ {S : Type 0} (left : S → Option (List Scripted)) (faults : S → ℕ) where
  -- ---- a description that was read

  -- it ran
  pub calls_ran : (conf : Conf) (rows : List Element) (run : RunCame) (ended : Ended) (a b c : Seen) (status : ℕ) → TellsRun conf run ended → Comes left faults (Described conf rows) (Ran run) a b → b.say ≡ a.say
      → (said : Result (Unit {0}) OutsideFault) × Says b c (run_text conf ended) said × (status ≡ max (ended_code ended) (said_code said)) → CallsOf left faults (RunsOf conf rows) a c status
  calls_ran conf rows run ended a b c status t k say s =
      calls_said left faults (RunsOf conf rows) (Described conf rows) (Ran run) a b c s.0 status (refl, tt) k say (subst (λ (text : List ℕ). Says b c text s.0) (lines_told conf rows run ended t) s.1)
      (s.2 ∙ ap (λ n. max n (said_code s.0)) (code_told conf run ended t))

  may_unopened : (u : Unopened) (n m : ℕ) → IsOfRun (Refused (opened.refusal_of u) n m)
  may_unopened (opening.Source i) n m = tt
  may_unopened opening.Log n m = tt
  may_unopened (opening.Output j) n m = tt
  may_unopened opening.Memory n m = tt

  -- it could not be opened
  pub calls_unopened : (conf : Conf) (rows : List Element) (u : Unopened) (a b c : Seen) (status : ℕ) → IsRefused left faults conf (opened.refusal_of u) a b
      → ReportsRefusal (described_parties conf) (opened.refusal_of u) b c status → CallsOf left faults (RunsOf conf rows) a c status
  calls_unopened conf rows u a b c status k s =
      calls_refused left faults (RunsOf conf rows) (Described conf rows) (opened.refusal_of u) k.0 k.1 a b c status (refl, may_unopened u k.0 k.1) (k.2 rows) k.3 s

  -- nothing was tried
  pub calls_unrun : (conf : Conf) (rows : List Element) (a c : Seen) (status : ℕ) → ReportsRefusal (described_parties conf) NoMemory a c status → CallsOf left faults (RunsOf conf rows) a c status
  calls_unrun conf rows a c status s =
      calls_refused left faults (RunsOf conf rows) (Described conf rows) NoMemory 0 0 a a c status (refl, tt) (record {
        texts = λ p. unread (a.text p);
        places = λ p. still (a.place p);
        sinks = λ p. unsunk (a.sink p);
        leaves = ((omega arith, omega arith, inr refl), (λ p events is. is), λ p. refl);
      }) refl s

  -- ---- a whole call

  -- what may come of a description may come of the call that reads it
  may_collect : (text : List ℕ → TextSeen) (file : List ℕ) (conf : Conf) (rows : List Element) (came : Came) → Describes text file conf → HasTable text conf.elements rows → IsOfRun came → IsOfCollect text file (Described conf rows) came
  may_collect text file conf rows BadWords d h m = m
  may_collect text file conf rows Fine d h m = m
  may_collect text file conf rows (Refused (NoText name) n k) d h m = absurd m
  may_collect text file conf rows (Refused (BadDescription fault) n k) d h m = absurd m
  may_collect text file conf rows (Refused (BadElements name fault) n k) d h m = absurd m
  may_collect text file conf rows (Refused (NoSource i) n k) d h m = (d, h)
  may_collect text file conf rows (Refused NoLog n k) d h m = (d, h)
  may_collect text file conf rows (Refused (NoOutput j) n k) d h m = (d, h)
  may_collect text file conf rows (Refused NoMemory n k) d h m = inr (d, h)
  may_collect text file conf rows (Ran run) d h m = (d, h)
  may_collect text file conf rows (Loaded run lengths) d h m = m

  of_read : (file : List ℕ) (conf : Conf) (rows : List Element) (a c : Seen) (status : ℕ) → Describes a.text file conf → HasTable a.text conf.elements rows → CallsOf left faults (RunsOf conf rows) a c status → Collects left faults file a c status
  of_read file conf rows a c status d h (plan, came, said, k) = (
    plan,
    came,
    said,
    record {
      may = subst (λ (p : Plan). IsOfCollect a.text file p came) (sym k.may.0) (may_collect a.text file conf rows came d h k.may.1);
      comes = k.comes;
      says = k.says;
      answers = k.answers;
    },
  )

  -- the description was read
  pub calls_read : (file : List ℕ) (conf : Conf) (rows : List Element) (a b c : Seen) (status : ℕ) → Describes a.text file conf → HasTable a.text conf.elements rows → b.text ≡ a.text → KeepsRest a b → CallsOf left faults (RunsOf conf rows) b c status
      → Collects left faults file a c status
  calls_read file conf rows a b c status d h texts keeps k = of_read file conf rows a c status d h (subst (λ (s : Seen). CallsOf left faults (RunsOf conf rows) s c status) (seen_same a b texts keeps) k)

  may_refuse : (text : List ℕ → TextSeen) (file : List ℕ) (r : Refusal) → Judges text file (Err (reason_of r)) → IsOfCollect text file Nothing (Refused (reason_of r) 0 0)
  may_refuse text file (refusal.NoText name) j = (refl, j)
  may_refuse text file (refusal.BadDescription fault) j = (refl, j)
  may_refuse text file (refusal.BadElements name fault) j = (refl, j)
  may_refuse text file refusal.Memory j = inl refl

  -- a text was refused
  pub calls_judged : (T : Type 0) (file : List ℕ) (r : Refusal) (a b c : Seen) (status : ℕ) → Judges a.text file (Err (reason_of r)) → CountsTexts {T = T} a.text b.text (Err r) → KeepsRest a b
      → ReportsRefusal no_parties (reason_of r) b c status → Collects left faults file a c status
  calls_judged T file r a b c status judged counts keeps s =
      calls_refused left faults (MayCome (Collect file)) Nothing (reason_of r) 0 0 a b c status (may_refuse a.text file r judged) (comes_refused left faults T r a b counts keeps) keeps.say s
