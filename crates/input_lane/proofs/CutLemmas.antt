-- The cutter against the computed cutting.
use Rattle.std.proofs.Common.{◌≡◌, ℕ, true, ◌||◌, List, [], ◌∷◌, ◌++◌, refl, ap, sym, ◌∙◌, append_assoc, drop, length, map}
use Rattle.std.specs.List.{concat}
use Rattle.std.proofs.Math.Seq.{drop-append_seam}
use Rattle.wire_spec.proofs.RowLemmas.{concat_append, each_append}
use Rattle.col_base.specs.declared.base.SessionKey.{SessionKey}
use Rattle.arrival_spec.specs.Arrival.{Arrival}
use Rattle.arrival_spec.specs.Arrival.Arrival.{Raw}
use Rattle.input_lane.specs.declared.came.Came.{Came}
use Rattle.input_lane.specs.Hands.{meant}
use Rattle.wire_spec.specs.Stream.{IsFramed, is_bad, is_short}
use Rattle.stream_cut.specs.Cutting.{Takes}
use Rattle.arrival_spec.specs.Cutting.{Cut, behind_first, cutting, new_messages}
use Rattle.arrival_spec.proofs.CutLemmas.{cutting_is, cutting_from}

-- a message was taken
pub cutting_more : (old new message : List ℕ) → Takes old new message → cutting old ≡ behind_first message (cutting new)
cutting_more old new message t =
    let c = cutting_is new in
    cutting_from old (message ∷ (cutting new).messages) (cutting new).rest (record {
      whole = t.joined ∙ (ap (λ x. message ++ x) c.whole ∙ sym (append_assoc message (concat (cutting new).messages) (cutting new).rest));
      each = (t.framed, c.each);
      ends = c.ends;
    })

-- none can be taken
pub cutting_none : (o : List ℕ) → (is_bad o || is_short o) ≡ true → cutting o ≡ record { messages = []; rest = o }
cutting_none o e = cutting_from o [] o (record { whole = refl; each = tt; ends = e })

pub cut_step : (key : SessionKey) (old new message : List ℕ) (h i : List Came) (all : List (Arrival (List ℕ))) → Takes old new message → meant i ≡ meant h ++ Raw key message ∷ []
    → meant h ++ map (Raw key) (cutting old).messages ≡ all → meant i ++ map (Raw key) (cutting new).messages ≡ all
cut_step key old new message h i all t e w =
    ap (λ l. l ++ map (Raw key) (cutting new).messages) e
    ∙ (append_assoc (meant h) (Raw key message ∷ []) (map (Raw key) (cutting new).messages)
    ∙ (ap (λ (c : Cut). meant h ++ map (Raw key) c.messages) (sym (cutting_more old new message t)) ∙ w))

-- octets behind what was cut: its messages stay, and the rest is cut with them
pub cut_behind : (o a : List ℕ) → cutting (o ++ a) ≡ record { messages = (cutting o).messages ++ (cutting ((cutting o).rest ++ a)).messages; rest = (cutting ((cutting o).rest ++ a)).rest }
cut_behind o a =
    let first = cutting_is o in
    let then = cutting_is ((cutting o).rest ++ a) in
    let m = (cutting o).messages in
    let n = (cutting ((cutting o).rest ++ a)).messages in
    cutting_from (o ++ a) (m ++ n) (cutting ((cutting o).rest ++ a)).rest (record {
      whole = ap (λ l. l ++ a) first.whole ∙ (append_assoc (concat m) (cutting o).rest a ∙ (ap (λ l. concat m ++ l) then.whole
          ∙ (sym (append_assoc (concat m) (concat n) (cutting ((cutting o).rest ++ a)).rest) ∙ ap (λ l. l ++ (cutting ((cutting o).rest ++ a)).rest) (sym (concat_append m n)))));
      each = each_append IsFramed m n first.each then.each;
      ends = then.ends;
    })

pub new_cut : (o a : List ℕ) → new_messages o a ≡ (cutting ((cutting o).rest ++ a)).messages
new_cut o a = ap (λ (c : Cut). drop (length (cutting o).messages) c.messages) (cut_behind o a) ∙ drop-append_seam (cutting o).messages (cutting ((cutting o).rest ++ a)).messages
