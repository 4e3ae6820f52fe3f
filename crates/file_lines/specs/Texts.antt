-- What of a text goes to an output.
use Rattle.std.specs.Prelude.{ℕ, ◌≡◌, true, List, [], ◌++◌, Option, Some, None, MatchOption, is_some}
use Rattle.arrival_spec.specs.declared.event.Scripted.{Scripted}
use Rattle.text_spec.specs.Builtin.{builtin_rows}
use Rattle.run_spec.specs.Outcome.{Outcome, DecodedSet, decoded_in}
use Rattle.run_spec.specs.Result.{sets_text}
use Rattle.site_io.specs.declared.outside.OutsideFault.{OutsideFault}
use Rattle.site_io.specs.declared.outside.OutsideFault.TheVariants.{NoMemory}
use Rattle.call_spec.specs.Counts.{MovesBy}
use Rattle.call_spec.specs.Ends.{GrowsAs, has_failed}
use Rattle.file_lines.specs.declared.texts.Texts.{Texts}

-- an output that has ended stays so; one that ends here wanted memory
abbrev pub KeepsFault : Option OutsideFault → Option OutsideFault → Type 0
KeepsFault None None = Unit {0}
KeepsFault None (Some f) = f ≡ NoMemory
KeepsFault (Some f) now = now ≡ Some f

-- the lines grew by this text, unless the output has ended
abbrev pub AddsText : Texts → Texts → List ℕ → Type 0
AddsText old new text = KeepsFault old.fault new.fault × (new.fault ≡ None → new.lines ≡ old.lines ++ text)

-- the lines grew by those of decoded sets
abbrev pub AddsSets : Texts → Texts → List DecodedSet → Type 0
AddsSets old new more = AddsText old new (sets_text true builtin_rows more)

abbrev pub PutsBody : Texts → Texts → Outcome → Type 0
PutsBody old new o = AddsSets old new (decoded_in o)

pub record Clears (old new : Texts) : Type 0 where
  pub nothing : new.lines ≡ []
  pub fault : new.fault ≡ old.fault

-- a text was written whole, or a front of it where the output ended; the count of faults rose where it failed
pub record Wrote (held now_held : Option (List ℕ)) (faults now_faults : ℕ) (text : List ℕ) (fault : Option OutsideFault) : Type 0 where
  pub octets : GrowsAs (is_some fault) held now_held text
  pub counts : MovesBy (has_failed fault) faults now_faults

-- the lines were written, unless the output had ended
abbrev pub Flushes : {K : Type 0} → (K → Option (List ℕ)) → (K → ℕ) → Texts → Texts → K → K → Type 0
Flushes held faults old new sink now_sink =
    MatchOption old.fault (Wrote (held sink) (held now_sink) (faults sink) (faults now_sink) old.lines new.fault) (λ f. (new.fault ≡ Some f) × (now_sink ≡ sink))
