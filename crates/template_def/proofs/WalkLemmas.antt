-- A walk over field specifiers, one further and whole.
use Rattle.std.proofs.Common.{◌≡◌, ℕ, zero, suc, ◌+◌, ◌-◌, ◌*◌, ◌<◌, ◌≤◌, List, length, drop, refl, ap, sym, ◌∙◌, arith, length-drop}
use Rattle.wire_spec.specs.declared.field.FieldSpec.{FieldSpec}
use Rattle.wire_spec.specs.Message.{specifier_size, specifiers_size, shortest_of_specifiers, least_of}
use Rattle.wire_spec.proofs.TemplateLemmas.{size_least}
use Rattle.wire_spec.proofs.SpecifierLemmas.{sizes_least, rest_whole}
use Rattle.template_def.specs.Walk.{BeginsField}

-- so many specifiers were walked over, whose shortest values are so long, and these octets follow
pub record IsWalked (specs : List ℕ) (counted least : ℕ) (rest : List ℕ) : Type 0 where
  pub down : (n : ℕ) → specifiers_size n rest ≡ length rest → specifiers_size (counted + n) specs ≡ length specs
  pub up : (count : ℕ) → specifiers_size count specs ≡ length specs → (n : ℕ) × (count ≡ counted + n) × (specifiers_size n rest ≡ length rest)
  pub shortest : (n : ℕ) → shortest_of_specifiers (counted + n) specs ≡ least + shortest_of_specifiers n rest
  pub room : 4 * counted + length rest ≤ length specs

pub walked_none : (specs : List ℕ) → IsWalked specs 0 0 specs
walked_none specs =
    let same : (n : ℕ) → 0 + n ≡ n = λ n. omega arith in
    record {
      down = λ n e. ap (λ k. specifiers_size k specs) (same n) ∙ e;
      up = λ count e. (count, sym (same count), e);
      shortest = λ n. ap (λ k. shortest_of_specifiers k specs) (same n) ∙ sym (same (shortest_of_specifiers n specs));
      room = omega arith;
    }

-- the first of the specifiers that are left, where some are
pub first_left : (n : ℕ) (o : List ℕ) → specifier_size o ≤ length o → specifiers_size n o ≡ length o → (k : ℕ) × (n ≡ suc k) × (specifiers_size k (drop (specifier_size o) o) ≡ length (drop (specifier_size o) o))
first_left zero o inside e = absurd (let s = size_least o in omega arith)
first_left (suc k) o inside e = (k, refl, rest_whole k o e)

pub walked_more : {specs rest : List ℕ} {counted least : ℕ} (field : FieldSpec) (after : List ℕ) → IsWalked specs counted least rest → BeginsField rest field after
    → IsWalked specs (counted + 1) (least + least_of field.len) after
walked_more {specs} {rest} {counted} {least} field after w b =
    let size = size_least rest in
    let inside = b.inside in
    let l : length after ≡ length rest - specifier_size rest = ap length b.rest ∙ length-drop (specifier_size rest) rest in
    let room = w.room in
    record {
      down = λ n e.
          (let s = ap (specifiers_size n) b.rest in
          let more : specifiers_size (suc n) rest ≡ length rest = omega arith in
          ap (λ k. specifiers_size k specs) (omega arith) ∙ w.down (suc n) more);
      up = λ count e.
          (let u = w.up count e in
          let f = first_left u.0 rest b.inside u.2 in
          let p = u.1 in
          let q = f.1 in
          (f.0, omega arith, ap (specifiers_size f.0) b.rest ∙ (f.2 ∙ ap length (sym b.rest))));
      shortest = λ n.
          (let s = ap (shortest_of_specifiers n) b.rest in
          let one = ap (λ (f : FieldSpec). least_of f.len) b.is in
          let all = w.shortest (suc n) in
          ap (λ k. shortest_of_specifiers k specs) (omega arith) ∙ (all ∙ omega arith));
      room = omega arith;
    }

-- Where no specifier begins what is left, it is empty, or the octets are no specifiers.
pub cut_short : {specs rest : List ℕ} {counted least : ℕ} → IsWalked specs counted least rest → length rest < specifier_size rest → 0 < length rest → (count : ℕ) → specifiers_size count specs ≡ length specs → ⊥
cut_short {specs} {rest} {counted} {least} w cut some count e = let u = w.up count e in none_left u.0 u.2
  where
    none_left : (n : ℕ) → specifiers_size n rest ≡ length rest → ⊥
    none_left zero e = omega arith
    none_left (suc n) e = omega arith

-- the specifiers were walked over, all of them
pub record AreWalked (specs : List ℕ) (counted least : ℕ) : Type 0 where
  pub whole : specifiers_size counted specs ≡ length specs
  pub shortest : shortest_of_specifiers counted specs ≡ least
  pub one : (count : ℕ) → specifiers_size count specs ≡ length specs → count ≡ counted

pub walked_all : {specs rest : List ℕ} {counted least : ℕ} → IsWalked specs counted least rest → length rest ≡ 0 → AreWalked specs counted least
walked_all {specs} {rest} {counted} {least} w none =
    let none_left : (n : ℕ) → specifiers_size n rest ≡ length rest → n ≡ 0 = λ n e. (let s = sizes_least n rest in omega arith) in
    record {
      whole = ap (λ k. specifiers_size k specs) (omega arith) ∙ w.down 0 (omega arith);
      shortest = (let l = w.shortest 0 in ap (λ k. shortest_of_specifiers k specs) (omega arith) ∙ (l ∙ omega arith));
      one = λ count e. (let u = w.up count e in let z = none_left u.0 u.2 in let p = u.1 in omega arith);
    }
