-- Idle peers close one by one.
use Rattle.std.proofs.Common.{◌≡◌, ℕ, not, List, [], ◌∷◌, ◌++◌, Some, ap, sym, subst, ◌∙◌, append_assoc, map}
use Rattle.std.specs.Prelude.{filter}
use Rattle.std.proofs.lemmas.List.{map-append}
use Rattle.col_base.specs.declared.base.SessionKey.{SessionKey}
use Rattle.arrival_spec.specs.Sessions.{key_of}
use Rattle.arrival_spec.specs.Arrival.Arrival.{SessionClose}
use Rattle.session_table.specs.Rows.{PeerRow, is_idle_row}
use Rattle.session_table.specs.Table.{Table, Ticks}
use Rattle.input_lane.specs.declared.came.Came.{Came}
use Rattle.input_lane.specs.declared.came.Came.TheVariants as came
use Rattle.input_lane.specs.Hands.{meant, meant_by}
use Rattle.input_lane.specs.Steps.{Idles, row_closes}

pub idle_step : (now : ℕ) (first old new : Table) (before h i : List Came) (key : SessionKey) → Idles now first old before h → Ticks now old new (Some key) → i ≡ h ++ came.SessionClose key ∷ [] → Idles now first new before i
idle_step now first old new before h i key d t e =
    let x = t.0.0 in
    let idle = is_idle_row first.idle now in
    let told : old.idle ≡ first.idle = ap (λ (o : Table). o.idle) d.same in
    let same : filter idle old.peers ≡ x ∷ filter idle new.peers = subst (λ (n : ℕ). filter (is_idle_row n now) old.peers ≡ x ∷ filter (is_idle_row n now) new.peers) told t.0.2 in
    let rows : filter (λ (y : PeerRow). not (is_idle_row first.idle now y)) new.peers ≡ filter (λ (y : PeerRow). not (is_idle_row first.idle now y)) old.peers
    = subst (λ (n : ℕ). filter (λ (y : PeerRow). not (is_idle_row n now y)) new.peers ≡ filter (λ (y : PeerRow). not (is_idle_row n now y)) old.peers) told t.1 in
    let closes : SessionClose key ≡ row_closes first.input x = ap (λ k. SessionClose k) (t.0.1 ∙ ap (λ (o : Table). key_of o.input x.session) d.same) in
    record {
      hand = ap (λ l. meant l ++ map (row_closes first.input) (filter idle new.peers)) e
          ∙ (ap (λ l. l ++ map (row_closes first.input) (filter idle new.peers)) (map-append meant_by h (came.SessionClose key ∷ []))
          ∙ (append_assoc (meant h) (SessionClose key ∷ []) (map (row_closes first.input) (filter idle new.peers))
          ∙ (ap (λ a. meant h ++ a ∷ map (row_closes first.input) (filter idle new.peers)) closes
          ∙ (ap (λ l. meant h ++ map (row_closes first.input) l) (sym same) ∙ d.hand))));
      rows = rows ∙ d.rows;
      same = t.2 ∙ ap (λ (o : Table). record o { peers = new.peers }) d.same;
    }
