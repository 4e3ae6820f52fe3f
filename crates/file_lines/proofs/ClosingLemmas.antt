-- Sessions that close at the end of a file: they have no text.
use Rattle.std.proofs.Common.{◌≡◌, ◌⊎◌, inl, ℕ, true, List, [], ◌∷◌, ◌++◌, Option, Some, None, map, refl, ap, sym, subst, ◌∙◌, append_assoc, append-nil}
use Rattle.std.specs.Prelude.{flat_map}
use Rattle.std.proofs.lemmas.List.{map-append}
use Rattle.std.proofs.lemmas.List.Concat.{flat_map-append}
use Rattle.col_base.specs.declared.base.SessionKey.{SessionKey}
use Rattle.arrival_spec.specs.declared.event.Scripted.{Scripted}
use Rattle.arrival_spec.specs.Arrival.{Arrival}
use Rattle.arrival_spec.specs.Arrival.Arrival.{SessionClose}
use Rattle.arrival_spec.specs.Cutting.{cutting}
use Rattle.arrival_spec.specs.Mark.{Mark, arrival_in, arrivals_in}
use Rattle.arrival_spec.specs.Mark.Mark.{Arrives}
use Rattle.arrival_spec.specs.Sessions.{Connection, Peer, Standing, closing, closings, key_of, peer_closes, torn_if}
use Rattle.arrival_spec.specs.Run.{arrivals_of, run_of, standing_after}
use Rattle.text_spec.specs.Builtin.{builtin_rows}
use Rattle.run_spec.specs.Read.{ReadArrival, AreReadAs}
use Rattle.run_spec.specs.Work.{AreDecodedTo, items_of}
use Rattle.run_spec.specs.Result.{item_text, json_text}
use Rattle.run_spec.proofs.ReadLemmas.{some_items, front_decoded}
use Rattle.input_lane.proofs.StandLemmas.{all_marks}
use Rattle.call_spec.specs.Files.{IsFileText, file_settings}
use Rattle.file_lines.specs.Session.{files}
use Rattle.file_lines.proofs.WorkLemmas.{text_same}

abbrev Given : Type 0
Given = Arrival (List ℕ)

-- these are closings
abbrev Closes : List Given → Type 0
Closes list = (keys : List SessionKey) × (list ≡ map SessionClose keys)

closes_both : (a b : List Given) → Closes a → Closes b → Closes (a ++ b)
closes_both a b p q = (p.0 ++ q.0, ap (λ l. l ++ b) p.1 ∙ (ap (λ l. map SessionClose p.0 ++ l) q.1 ∙ sym (map-append SessionClose p.0 q.0)))

torn_closes : (key : SessionKey) (rest : List ℕ) → Closes (arrivals_in (torn_if rest ++ Arrives (SessionClose key) ∷ []))
torn_closes key [] = (key ∷ [], refl)
torn_closes key (o ∷ rest) = (key ∷ [], refl)

one_closes : (input : ℕ) (octets : List ℕ) (session : Option ℕ) → Closes (arrivals_in (closing input octets session))
one_closes input octets None = ([], refl)
one_closes input octets (Some n) = torn_closes (key_of input n) (cutting octets).rest

joined_closes : (a b : List Mark) → Closes (arrivals_in a) → Closes (arrivals_in b) → Closes (arrivals_in (a ++ b))
joined_closes a b p q = subst Closes (sym (flat_map-append arrival_in a b)) (closes_both (arrivals_in a) (arrivals_in b) p q)

all_close : (input : ℕ) (connections : List Connection) → Closes (arrivals_in (flat_map (λ (x : Connection). closing input x.octets x.session) connections))
all_close input [] = ([], refl)
all_close input (x ∷ connections) = joined_closes (closing input x.octets x.session) (flat_map (λ (x : Connection). closing input x.octets x.session) connections) (one_closes input x.octets x.session) (all_close input connections)

peers_close : (input : ℕ) (peers : List Peer) → Closes (arrivals_in (map (peer_closes input) peers))
peers_close input [] = ([], refl)
peers_close input (x ∷ peers) = let p = peers_close input peers in (key_of input x.session ∷ p.0, ap (λ l. SessionClose (key_of input x.session) ∷ l) p.1)

end_closes : (input : ℕ) (s : Standing) → Closes (arrivals_in (closings input s))
end_closes input s = joined_closes (flat_map (λ (x : Connection). closing input x.octets x.session) s.connections) (map (peer_closes input) s.peers) (all_close input s.connections) (peers_close input s.peers)

-- closings are read, and have no text
closes_read : (keys : List SessionKey) (read : List ReadArrival) (text : List ℕ) → text ≡ json_text true builtin_rows (items_of files read)
    → (more : List ReadArrival) × AreReadAs (map SessionClose keys) more × (text ≡ json_text true builtin_rows (items_of files (read ++ more)))
closes_read [] read text is = ([], tt, is ∙ ap (λ l. json_text true builtin_rows (items_of files l)) (sym (append-nil read)))
closes_read (key ∷ keys) read text is =
    let r : ReadArrival = SessionClose key in
    let c = closes_read keys (read ++ r ∷ []) text (text_same read r text refl is) in
    (r ∷ c.0, (refl, c.1), c.2 ∙ ap (λ l. json_text true builtin_rows (items_of files l)) (append_assoc read (r ∷ []) c.0))

read_both : (a b : List Given) (r s : List ReadArrival) → AreReadAs a r → AreReadAs b s → AreReadAs (a ++ b) (r ++ s)
read_both [] b [] s p q = q
read_both [] b (x ∷ r) s p q = absurd p
read_both (x ∷ a) b [] s p q = absurd p
read_both (x ∷ a) b (y ∷ r) s p q = (p.0, read_both a b r s p.1 q)

-- Where all that arrived was worked off, its text is that of the file.
pub over_text : (given : List Scripted) (out : List Given) (read : List ReadArrival) (text : List ℕ) → out ≡ arrivals_in (run_of file_settings 0 given).marks → AreReadAs out read → text ≡ json_text true builtin_rows (items_of files read) → IsFileText given text
over_text given out read text whole reads is =
    let standing = standing_after file_settings 0 given in
    let e = end_closes 0 standing in
    let c = closes_read e.0 read text is in
    let all : arrivals_of file_settings 0 given ≡ out ++ map SessionClose e.0 =
    ap arrivals_in (all_marks file_settings 0 given (inl refl)) ∙ (flat_map-append arrival_in (run_of file_settings 0 given).marks (closings 0 standing) ∙ (ap (λ l. l ++ arrivals_in (closings 0 standing)) (sym whole) ∙ ap (λ l. out ++ l) e.1)) in (
      items_of files (read ++ c.0),
      (read ++ c.0, subst (λ (l : List Given). AreReadAs l (read ++ c.0)) (sym all) (read_both out (map SessionClose e.0) read c.0 reads c.1), refl),
      c.2,
    )

-- The text of the first arrivals is a front of that of the file.
pub front_text : (given : List Scripted) (out rest : List Given) (read : List ReadArrival) (text : List ℕ) → arrivals_of file_settings 0 given ≡ out ++ rest → AreReadAs out read → text ≡ json_text true builtin_rows (items_of files read)
    → (more : List ℕ) × IsFileText given (text ++ more)
front_text given out rest read text front reads is =
    let all = some_items files (out ++ rest) in
    let r = front_decoded files out rest (items_of files read) all.0 (read, reads, refl) all.1 in (
      json_text true builtin_rows r.0,
      (
        all.0,
        subst (λ (l : List Given). AreDecodedTo files l all.0) (sym front) all.1,
        ap (λ x. x ++ json_text true builtin_rows r.0) is ∙ (sym (flat_map-append (item_text true builtin_rows) (items_of files read) r.0) ∙ ap (json_text true builtin_rows) (sym r.1)),
      ),
    )
