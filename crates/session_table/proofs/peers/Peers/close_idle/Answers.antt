use Rattle.std.proofs.Common.{◌∙◌, ◌<◌, ◌+◌, sym, ap, refl, map, filter, not, arith, ◌∷◌}
use Rattle.std.specs.List.{list_all}
use Rattle.indexmap.proofs.SetLemmas.{map-remove}
use Rattle.session_table.specs.Rows.{peer_row, is_later, is_idle_row}
use Rattle.session_table.proofs.PeerLemmas.{none_idle, none_passes, none_filtered, idle_seen, idle_goes, rest_later, all_later}
use Rattle.session_table.proofs.peers.Peers.close_idle.Goals as goal

soon : (c : goal.Then-from) → c.args.now < c.self.inside.oldest + c.args.idle
soon c =
    let less = c.if-from.true in
    let a = c.from.ensures in
    let b = c.from-2.ensures in
    let d = c.from-3.ensures in grind arith

pub returns-then-from : goal.returns-then-from
returns-then-from c = (
  ap (filter (is_idle_row c.args.idle c.args.now)) (sym c.self.view_is) ∙ none_idle c.self.inside.oldest c.args.idle c.args.now (soon c) (map peer_row c.self.inside.heard.entries) c.self.invariant,
  refl,
)

pub invariant_of-self-in-Some : goal.invariant_of-self-in-Some
invariant_of-self-in-Some c =
    ap (list_all (is_later c.self.inside.oldest)) (ap (map peer_row) c.shift_remove_index.ensures.entries ∙ map-remove peer_row c.self.inside.heard.entries c.in-Some.i)
    ∙ rest_later c.self.inside.oldest (map peer_row c.self.inside.heard.entries) c.in-Some.i c.self.invariant

pub invariant_of-self-in-None : goal.invariant_of-self-in-None
invariant_of-self-in-None c = ap (λ o. list_all (is_later o) (map peer_row c.self.inside.heard.entries)) c.oldest_of-self-inside.ensures ∙ all_later 4294967295 c.self.inside.heard.entries

pub returns-in_ok-heard-in-Some : goal.returns-in_ok-heard-in-Some
returns-in_ok-heard-in-Some c =
    let g = idle_goes c.args.idle c.args.now c.self.inside.heard.entries c.in-Some.i c.in_ok-heard-in-Some.field-0-0 c.in_ok-heard-in-Some.heard
    (sym (idle_seen c.args.idle c.args.now c.self.inside.heard.entries) ∙ (sym c.first_idle.ensures ∙ c.in-Some.is))
    (sym c.shift_remove_index.ensures.entry ∙ c.in_ok-heard-in-Some.was) in
    let left = ap (map peer_row) c.shift_remove_index.ensures.entries in (
      (g.0.0, g.0.1, ap (filter (is_idle_row c.args.idle c.args.now)) (sym c.self.view_is) ∙ (g.0.2 ∙ ap (λ rows. g.0.0 ∷ filter (is_idle_row c.args.idle c.args.now) rows) (sym left))),
      ap (filter (λ x. not (is_idle_row c.args.idle c.args.now x))) left ∙ (g.1 ∙ ap (filter (λ x. not (is_idle_row c.args.idle c.args.now x))) c.self.view_is),
    )

pub returns-in-None : goal.returns-in-None
returns-in-None c = (
  ap (filter (is_idle_row c.args.idle c.args.now)) (sym c.self.view_is)
      ∙ none_filtered (is_idle_row c.args.idle c.args.now) (map peer_row c.self.inside.heard.entries)
      (none_passes (is_idle_row c.args.idle c.args.now) (map peer_row c.self.inside.heard.entries) (sym (idle_seen c.args.idle c.args.now c.self.inside.heard.entries) ∙ (sym c.first_idle.ensures ∙ c.in-None.is))),
  c.self.view_is,
)
