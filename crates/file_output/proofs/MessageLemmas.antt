-- The parts of a message, joined one behind another.
use Rattle.std.proofs.Common.{◌≡◌, ℕ, ◌+◌, ◌<◌, List, [], ◌∷◌, ◌++◌, length, ap, sym, ◌∙◌, arith, append_assoc, false, ◌==◌, take, append-nil}
use Rattle.std.specs.Prelude.{flat_map, sum_by, slice_index_or}
use Rattle.std.proofs.lemmas.List.{take_more}
use Rattle.std.proofs.lemmas.Grind.{flat_map-append}
use Rattle.std.proofs.lemmas.List.Concat.{length-flat_map}
use Rattle.col_base.specs.declared.base.Kind.{Kind}
use Rattle.col_base.specs.declared.base.Kind.TheVariants.{Template, Options}
use Rattle.wire_spec.specs.Message.{front, set_id}
use Rattle.wire_spec.specs.Content.{Definition}
use Rattle.wire_spec.specs.Specifiers.{two_octets, four_octets, specifiers}
use Rattle.file_spec.specs.File.{set_of, scope_octets, template_of}
use Rattle.file_output.specs.declared.head.Head.{Head}
use Rattle.file_output.specs.Sets.{Body, message_in, template_in, set_in, sets_size, data_in}

-- a message's header behind others, part by part
abbrev pub head_behind : List ℕ → Head → ℕ → List ℕ
head_behind out head size = out ++ (two_octets 10 ++ two_octets (16 + size)) ++ four_octets head.export ++ four_octets head.sequence ++ four_octets head.domain

-- what follows the header of a message that has its length
pub behind_head : (out : List ℕ) (head : Head) (sets : List ℕ) → head_behind out head (length sets) ++ sets ≡ out ++ message_in head sets
behind_head out head sets =
    let p = two_octets 10 ++ two_octets (16 + length sets) in
    let q = four_octets head.export in
    let r = four_octets head.sequence in
    let s = four_octets head.domain in
    append_assoc (out ++ p ++ q ++ r) s sets ∙ (append_assoc (out ++ p ++ q) r (s ++ sets) ∙ (append_assoc (out ++ p) q (r ++ (s ++ sets)) ∙ append_assoc out p (q ++ (r ++ (s ++ sets)))))

front_sized : (kind : Kind) (scope : ℕ) (octets : List ℕ) → front kind + length octets ≡ 4 + length (scope_octets kind scope ++ octets)
front_sized Template scope octets = omega arith
front_sized Options scope octets = omega arith

-- a set of one template record, part by part
template_behind : (out : List ℕ) (head : Head) (number : ℕ) (def : Definition)
    → head_behind out head (4 + front def.kind + length (specifiers def.fields))
    ++ (two_octets (set_id def.kind) ++ two_octets (4 + front def.kind + length (specifiers def.fields)))
    ++ (two_octets number ++ two_octets (length def.fields)) ++ scope_octets def.kind def.scope ++ specifiers def.fields
    ≡ out ++ message_in head (set_of (set_id def.kind) (template_of number def))
template_behind out head number def =
    let size = front_sized def.kind def.scope (specifiers def.fields) in
    let row = two_octets number ++ two_octets (length def.fields) in
    let scope = scope_octets def.kind def.scope in
    let specs = specifiers def.fields in
    let body = template_of number def in
    let sets = set_of (set_id def.kind) body in
    let inner : 4 + front def.kind + length specs ≡ 4 + length body = omega arith in
    let whole : 4 + front def.kind + length specs ≡ length sets = omega arith in
    let from : ℕ → ℕ → List ℕ = λ n m. head_behind out head n ++ (two_octets (set_id def.kind) ++ two_octets m) in
    ap (λ n. from n (4 + front def.kind + length specs) ++ row ++ scope ++ specs) whole
    ∙ (ap (λ m. from (length sets) m ++ row ++ scope ++ specs) inner
    ∙ (append_assoc (from (length sets) (4 + length body) ++ row) scope specs
    ∙ (append_assoc (from (length sets) (4 + length body)) row (scope ++ specs)
    ∙ (append_assoc (head_behind out head (length sets)) (two_octets (set_id def.kind) ++ two_octets (4 + length body)) (row ++ (scope ++ specs))
    ∙ behind_head out head sets))))

-- the same, with numbers that are those of the definition
pub template_written : (out headed : List ℕ) (head : Head) (number : ℕ) (def : Definition) (id size count : ℕ) → id ≡ set_id def.kind → size ≡ 4 + front def.kind + length (specifiers def.fields) → count ≡ length def.fields
    → headed ≡ head_behind out head size
    → headed ++ (two_octets id ++ two_octets size) ++ (two_octets number ++ two_octets count) ++ scope_octets def.kind def.scope ++ specifiers def.fields
    ≡ out ++ message_in head (set_of (set_id def.kind) (template_of number def))
template_written out headed head number def id size count i s n h =
    let scope = scope_octets def.kind def.scope in
    let specs = specifiers def.fields in
    let from : List ℕ → ℕ → ℕ → ℕ → List ℕ = λ o j m k. o ++ (two_octets j ++ two_octets m) ++ (two_octets number ++ two_octets k) ++ scope ++ specs in
    ap (λ o. from o id size count) h
    ∙ (ap (λ j. from (head_behind out head size) j size count) i
    ∙ (ap (λ m. from (head_behind out head m) (set_id def.kind) m count) s
    ∙ (ap (λ k. from (head_behind out head (4 + front def.kind + length specs)) (set_id def.kind) (4 + front def.kind + length specs) k) n
    ∙ template_behind out head number def)))

module _ {X : Type 0} (body : X → Body) (known : List Definition) where
  set_sized : (s : X) → 4 + length (body s).octets ≡ length (set_in known (body s))
  set_sized s = omega arith

  sets_sized : (sets : List X) → sets_size body sets ≡ length (flat_map (λ s. set_in known (body s)) sets)
  sets_sized sets = ap (λ (f : X → ℕ). sum_by f sets) (λ i s. set_sized s i) ∙ sym (length-flat_map (λ s. set_in known (body s)) sets)

  -- the data sets behind a message's header
  pub data_written : (head : Head) (sets : List X) (out headed : List ℕ) (size : ℕ) → (length sets == 0) ≡ false → size ≡ sets_size body sets → headed ≡ head_behind out head size
      → headed ++ flat_map (λ s. set_in known (body s)) sets ≡ out ++ data_in body head known sets
  data_written head [] out headed size some s h = absurd cc
  data_written head (x ∷ sets) out headed size some s h =
      ap (λ o. o ++ flat_map (λ s. set_in known (body s)) (x ∷ sets)) (h ∙ ap (head_behind out head) (s ∙ sets_sized (x ∷ sets)))
      ∙ behind_head out head (flat_map (λ s. set_in known (body s)) (x ∷ sets))

-- one template message more
pub one_template_more : (head : Head) (known new : List Definition) (i : ℕ) (d : Definition) (old out next : List ℕ) → i < length new
    → out ≡ old ++ flat_map (template_in head known) (take i new) → next ≡ out ++ template_in head known (slice_index_or new i d)
    → next ≡ old ++ flat_map (template_in head known) (take (i + 1) new)
one_template_more head known new i d old out next l e f =
    let text = template_in head known in
    let one = slice_index_or new i d in
    let more : flat_map text (take (i + 1) new) ≡ flat_map text (take i new) ++ text one =
    ap (flat_map text) (take_more new i d l) ∙ (flat_map-append text (take i new) (one ∷ []) ∙ ap (λ o. flat_map text (take i new) ++ o) (append-nil (text one))) in
    f ∙ (ap (λ o. o ++ text one) e ∙ (append_assoc old (flat_map text (take i new)) (text one) ∙ ap (λ o. old ++ o) (sym more)))
