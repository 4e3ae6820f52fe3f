-- What was said.
use Rattle.std.proofs.Common.{◌≡◌, ℕ, zero, suc, ◌+◌, true, List, [], ◌∷◌, ◌++◌, length, take, Option, Some, None, refl, ap, sym, subst, ◌∙◌, append_assoc, append-nil}
use Rattle.std.specs.Prelude.{Result, Ok, Err}
use Rattle.std.proofs.Math.Seq.{take-append-add}
use Rattle.site_io.specs.declared.outside.OutsideFault.{OutsideFault}
use Rattle.site_io.specs.declared.outside.OutsideFault.TheVariants as fault
use Rattle.site_io.specs.Outside.{Counts}
use Rattle.site_io.specs.Seen.{Seen, ChangesSay}
use Rattle.site_io.specs.Writes.{Grows, Writes}
use Rattle.call_spec.specs.Counts.{MovesBy}
use Rattle.call_spec.specs.Ends.{GrowsByFront}
use Rattle.call_spec.specs.Lines.{Said}
use Rattle.run_lines.specs.Says.{Says}

grows_none : (old : Option (List ℕ)) → Grows old old []
grows_none None = tt
grows_none (Some xs) = sym (append-nil xs)

grows_more : (a b c : Option (List ℕ)) (first second : List ℕ) → Grows a b first → Grows b c second → Grows a c (first ++ second)
grows_more None b c first second p q = tt
grows_more (Some xs) None c first second p q = absurd p
grows_more (Some xs) (Some ys) None first second p q = absurd q
grows_more (Some xs) (Some ys) (Some zs) first second p q = q ∙ (ap (λ l. l ++ second) p ∙ append_assoc xs first second)

front_within : (n : ℕ) (text more : List ℕ) → (m : ℕ) × (take n text ≡ take m (text ++ more))
front_within zero text more = (0, refl)
front_within (suc n) [] more = (0, refl)
front_within (suc n) (x ∷ text) more = let f = front_within n text more in (suc f.0, ap (λ t. x ∷ t) f.1)

front_longer : (old new : Option (List ℕ)) (text more : List ℕ) → GrowsByFront old new text → GrowsByFront old new (text ++ more)
front_longer old new text more f = let w = front_within f.0 text more in (w.0, subst (λ t. Grows old new t) w.1 f.1)

front_behind : (a b c : Option (List ℕ)) (text more : List ℕ) → Grows a b text → GrowsByFront b c more → GrowsByFront a c (text ++ more)
front_behind a b c text more g f = (length text + f.0, subst (λ t. Grows a c t) (sym (take-append-add text more f.0)) (grows_more a b c text (take f.0 more) g f.1))

-- nothing was said
pub says_none : (a : Seen) → Says a a [] (Ok tt)
says_none a = record { rest = record { texts = refl; places = refl; sinks = refl }; text_said = (grows_none a.say.said, refl) }

pub says_nothing : (a : Seen) (text : List ℕ) → Says a a text (Err fault.NoMemory)
says_nothing a text = record { rest = record { texts = refl; places = refl; sinks = refl }; text_said = ((0, grows_none a.say.said), refl) }

-- one call of the Site
pub says_call : (a b : Seen) (piece : List ℕ) (r : Result (Unit {0}) OutsideFault) → Writes a.say.said b.say.said a.say.total b.say.total r piece → Counts a.say.faults b.say.faults r → ChangesSay a b → Says a b piece r
says_call a b piece (Ok done) w c ch = record { rest = ch; text_said = (w.octets, c) }
says_call a b piece (Err fault.Failed) w c ch = record { rest = ch; text_said = ((w.0, w.2.octets), c) }
says_call a b piece (Err fault.NoMemory) w c ch = record { rest = ch; text_said = ((0, subst (λ (o : Option (List ℕ)). Grows a.say.said o []) (sym w.0) (grows_none a.say.said)), c) }

both_say : (a b c : Seen) → ChangesSay a b → ChangesSay b c → ChangesSay a c
both_say a b c p q = record { texts = q.texts ∙ p.texts; places = q.places ∙ p.places; sinks = q.sinks ∙ p.sinks }

-- one text behind another
pub says_then : (a b c : Seen) (x y : List ℕ) (r : Result (Unit {0}) OutsideFault) → Says a b x (Ok tt) → Says b c y r → Says a c (x ++ y) r
says_then a b c x y (Ok done) p q = record { rest = both_say a b c p.rest q.rest; text_said = (grows_more a.say.said b.say.said c.say.said x y p.text_said.0 q.text_said.0, q.text_said.1 ∙ p.text_said.1) }
says_then a b c x y (Err fault.Failed) p q = record {
  rest = both_say a b c p.rest q.rest;
  text_said = (front_behind a.say.said b.say.said c.say.said x y p.text_said.0 q.text_said.0, subst (λ n. MovesBy true n c.say.faults) p.text_said.1 q.text_said.1);
}
says_then a b c x y (Err fault.NoMemory) p q = record { rest = both_say a b c p.rest q.rest; text_said = (front_behind a.say.said b.say.said c.say.said x y p.text_said.0 q.text_said.0, q.text_said.1 ∙ p.text_said.1) }

-- what could not be said ends it
pub says_stop : (a b : Seen) (x y : List ℕ) (f : OutsideFault) → Says a b x (Err f) → Says a b (x ++ y) (Err f)
says_stop a b x y fault.Failed p = record { rest = p.rest; text_said = (front_longer a.say.said b.say.said x y p.text_said.0, p.text_said.1) }
says_stop a b x y fault.NoMemory p = record { rest = p.rest; text_said = (front_longer a.say.said b.say.said x y p.text_said.0, p.text_said.1) }
