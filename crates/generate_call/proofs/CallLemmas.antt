-- What a call of `generate` promises, from what came and what was said.
use Rattle.std.proofs.Common.{◌≡◌, ℕ, max, List, [], ◌++◌, Option, refl, ap, sym, subst, ◌∙◌, arith, inr}
use Rattle.std.specs.Prelude.{Result, map}
use Rattle.arrival_spec.specs.declared.event.Scripted.{Scripted}
use Rattle.config_spec.specs.declared.conf.Conf.{Conf}
use Rattle.text_spec.specs.Builtin.{builtin_rows}
use Rattle.site_io.specs.declared.outside.OutsideFault.{OutsideFault}
use Rattle.site_io.specs.Seen.{Seen}
use Rattle.words_spec.specs.Commands.Command.{Generate}
use Rattle.call_spec.specs.Call.{Calls, MayCome}
use Rattle.call_spec.specs.Came.Came.{Loaded}
use Rattle.call_spec.specs.Came.Refusal.{NoMemory}
use Rattle.call_spec.specs.Lines.{lines_by, lines_of, octets_line}
use Rattle.call_spec.specs.Load.{load_conf}
use Rattle.call_spec.specs.Plan.{no_parties}
use Rattle.call_spec.specs.Plan.Plan.{Generated, Nothing}
use Rattle.call_spec.specs.Status.{said_code}
use Rattle.run_lines.specs.Ended.{ended_code, load_text}
use Rattle.run_lines.specs.Says.{Says}
use Rattle.run_came.proofs.ToldLemmas.{code_told, lines_told, outputs_named}
use Rattle.described_texts.specs.Reports.{ReportsRefusal}
use Rattle.described_texts.proofs.KeptLemmas.{calls_refused, calls_said, still, unread, unsunk}
use Rattle.generate_call.specs.Ran.{CameToLoad}
use Rattle.generate_call.specs.declared.load.Load.{Load}

module _ {S : Type 0} (left : S → Option (List Scripted)) (faults : S → ℕ) (number count : ℕ) (a c : Seen) (status : ℕ) where
  load_lines : (load : Load) (k : CameToLoad number count load) → load_text load_conf load.ended load.lengths.items ≡ lines_of (Generated number count) (Loaded k.run load.lengths.items)
  load_lines load k = λ i. lines_told load_conf builtin_rows k.run load.ended k.tells i ++ lines_by octets_line (outputs_named load_conf.outputs i) load.lengths.items

  -- it ran
  calls_loaded : (load : Load) → CameToLoad number count load → ((said : Result (Unit {0}) OutsideFault) × Says a c (load_text load_conf load.ended load.lengths.items) said × (status ≡ max (ended_code load.ended) (said_code said)))
      → Calls left faults (Generate number count) a c status
  calls_loaded load k s =
      calls_said left faults (MayCome (Generate number count)) (Generated number count) (Loaded k.run load.lengths.items) a a c s.0 status refl
      (record { texts = λ p. unread (a.text p); places = λ p. still (a.place p); sinks = λ p. unsunk (a.sink p); leaves = k.leaves }) refl
      (subst (λ (text : List ℕ). Says a c text s.0) (load_lines load k) s.1)
      (s.2 ∙ ap (λ n. max n (said_code s.0)) (code_told load_conf k.run load.ended k.tells))

  -- and it was told by its description and its lengths
  pub calls_reported : (conf : Conf) (counts : List ℕ) (load : Load) → conf ≡ load_conf → counts ≡ load.lengths.items → CameToLoad number count load
      → ((said : Result (Unit {0}) OutsideFault) × Says a c (load_text conf load.ended counts) said × (status ≡ max (ended_code load.ended) (said_code said))) → Calls left faults (Generate number count) a c status
  calls_reported conf counts load is are k s =
      calls_loaded load k (s.0, subst (λ (x : Conf). Says a c (load_text x load.ended load.lengths.items) s.0) is (subst (λ (l : List ℕ). Says a c (load_text conf load.ended l) s.0) are s.1), s.2)

  -- memory was wanted before that
  pub calls_unrun : ReportsRefusal no_parties NoMemory a c status → Calls left faults (Generate number count) a c status
  calls_unrun s =
      calls_refused left faults (MayCome (Generate number count)) Nothing NoMemory 0 0 a a c status refl
      (record {
        texts = λ p. unread (a.text p);
        places = λ p. still (a.place p);
        sinks = λ p. unsunk (a.sink p);
        leaves = ((omega arith, omega arith, inr refl), (λ p events is. is), λ p. refl);
      })
      refl s
