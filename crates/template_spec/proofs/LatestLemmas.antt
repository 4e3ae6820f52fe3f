-- What is latest, in words of the whole list, and when it is valid.
use Rattle.std.proofs.Common.{◌≡◌, ℕ, ◌+◌, ◌<◌, Bool, true, false, cond, List, Some, None, refl, ap, ◌∙◌, subst}
use Rattle.std.specs.Prelude.{Option, nat_le, option_map}
use Rattle.std.proofs.lemmas.Bool.{lt-leb}
use Rattle.col_base.specs.declared.base.Lifetimes.{Lifetimes}
use Rattle.col_base.specs.declared.base.Transport.TheVariants.{Udp}
use Rattle.wire_spec.specs.Content.{Definition, Touch}
use Rattle.template_spec.specs.Changes.{latest}
use Rattle.template_spec.specs.Meaning.{IsNewestOf}
use Rattle.template_spec.specs.Valid.{lifetime, newest, valid, while_alive}
use Rattle.template_spec.proofs.MeaningLemmas.{newest_is, newest_of}

abbrev defined : Option (ℕ × Definition) → Option Definition
defined o = option_map (λ found. found.1) o

alive_defined : (life : Lifetimes) (time : ℕ) (definition : Definition) (found : Option (ℕ × Definition)) → while_alive life time found ≡ Some definition → defined found ≡ Some definition
alive_defined life time definition None e = absurd cc
alive_defined life time definition (Some (at, d)) e = by_test (nat_le time (at + lifetime life d.kind)) e
  where
    by_test : (b : Bool) → cond b (Some d) None ≡ Some definition → Some d ≡ Some definition
    by_test true f = f
    by_test false f = absurd cc

-- What is valid is latest.
pub valid_latest : (life : Lifetimes) (touches : List (ℕ × Touch)) (time id : ℕ) (definition : Definition) → valid Udp life touches time id ≡ Some definition → latest Udp touches time id ≡ Some definition
valid_latest life touches time id definition e = alive_defined life time definition (newest touches time id) e

-- What is latest is the newest.
pub latest_of : (touches : List (ℕ × Touch)) (time id : ℕ) (definition : Definition) → latest Udp touches time id ≡ Some definition → (at : ℕ) × IsNewestOf touches time id at definition
latest_of touches time id definition e = by_found (newest touches time id) refl e
  where
    by_found : (o : Option (ℕ × Definition)) → newest touches time id ≡ o → defined o ≡ Some definition → (at : ℕ) × IsNewestOf touches time id at definition
    by_found None n f = absurd cc
    by_found (Some (at, d)) n f = let same : d ≡ definition = cc in (at, subst (λ (x : Definition). IsNewestOf touches time id at x) same (newest_of touches time id (at, d) n))

pub latest_is : (touches : List (ℕ × Touch)) (time id at : ℕ) (definition : Definition) → IsNewestOf touches time id at definition → latest Udp touches time id ≡ Some definition
latest_is touches time id at definition l = ap defined (newest_is touches time id at definition l)

-- And past its lifetime none is valid.
pub outlived : (life : Lifetimes) (touches : List (ℕ × Touch)) (time id at : ℕ) (definition : Definition) → IsNewestOf touches time id at definition → at + lifetime life definition.kind < time → valid Udp life touches time id ≡ None
outlived life touches time id at definition l late =
    ap (while_alive life time) (newest_is touches time id at definition l) ∙ ap (λ b. cond b (Some definition) None) (lt-leb time (at + lifetime life definition.kind) late)
