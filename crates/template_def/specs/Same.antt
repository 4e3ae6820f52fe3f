-- When two definitions are equal: kind, scope fields and fields are. The test says so exactly of equal values, so it
-- is an equivalence.
use Rattle.std.specs.Prelude.{◌≡◌, ◌&&◌, ◌==◌, Bool, true, false, ℕ, List, refl}
use Rattle.std.specs.Bool.{Decides}
use Rattle.std.specs.Cmp.{IsEquivalence, IsPartialEquivalence, partial_equiv_from_equiv, unsigned_Decides, both_ways}
use Rattle.std.specs.Cmp.Lexicographic.{pointwise}
use Rattle.std.proofs.Common.{sym, ap, ◌∙◌}
use Rattle.std.proofs.lemmas.Bool.{and_parts, and_from}
use Rattle.std.proofs.lemmas.Slice.Eq.{slice_eq-Decides}
use Rattle.col_base.specs.declared.base.Kind.{Kind}
use Rattle.col_base.specs.declared.base.Kind.TheVariants.{Template, Options}
use Rattle.wire_spec.specs.declared.field.FieldSpec.{FieldSpec}
use Rattle.wire_spec.specs.Content.{Definition}
use Rattle.wire_spec.proofs.WrittenLemmas.{equal_fields}

abbrev pub same_kind : Kind → Kind → Bool
same_kind Template Template = true
same_kind Options Options = true
same_kind a b = false

abbrev pub same_field : FieldSpec → FieldSpec → Bool
same_field f g = f.pen == g.pen && (f.id == g.id && f.len == g.len)

abbrev pub same_definition : Definition → Definition → Bool
same_definition a b = same_kind a.kind b.kind && (a.scope == b.scope && pointwise same_field a.fields b.fields)

kind_Decides : (a b : Kind) → Decides (same_kind a b) (a ≡ b)
kind_Decides Template Template = (λ e. refl, λ e. refl)
kind_Decides Template Options = (λ e. absurd cc, λ e. absurd cc)
kind_Decides Options Template = (λ e. absurd cc, λ e. absurd cc)
kind_Decides Options Options = (λ e. refl, λ e. refl)

field_Decides : (f g : FieldSpec) → Decides (same_field f g) (f ≡ g)
field_Decides f g = (
  λ e. (let p = and_parts _ _ e in let q = and_parts _ _ p.1 in equal_fields f g ((unsigned_Decides f.pen g.pen).0 p.0) ((unsigned_Decides f.id g.id).0 q.0) ((unsigned_Decides f.len g.len).0 q.1)),
  λ e. and_from _ _ ((unsigned_Decides f.pen g.pen).1 (ap (λ (h : FieldSpec). h.pen) e))
      (and_from _ _ ((unsigned_Decides f.id g.id).1 (ap (λ (h : FieldSpec). h.id) e)) ((unsigned_Decides f.len g.len).1 (ap (λ (h : FieldSpec). h.len) e))),
)

fields_Decides : (f g : List FieldSpec) → Decides (pointwise same_field f g) (f ≡ g)
fields_Decides f g = slice_eq-Decides field_Decides f g (pointwise same_field f g) refl

equal_definitions : (a b : Definition) → a.kind ≡ b.kind → a.scope ≡ b.scope → a.fields ≡ b.fields → a ≡ b
equal_definitions a b k s f =
    let x : a ≡ record a { kind = b.kind } = ap (λ (v : Kind). record a { kind = v }) k in
    let y : record a { kind = b.kind } ≡ record b { fields = a.fields } = ap (λ (v : ℕ). record b { fields = a.fields; scope = v }) s in
    let z : record b { fields = a.fields } ≡ b = ap (λ (v : List FieldSpec). record b { fields = v }) f in
    x ∙ (y ∙ z)

-- The test is true exactly of equal definitions.
pub definition_Decides : (a b : Definition) → Decides (same_definition a b) (a ≡ b)
definition_Decides a b = (
  λ e. (let p = and_parts _ _ e in let q = and_parts _ _ p.1 in equal_definitions a b ((kind_Decides a.kind b.kind).0 p.0) ((unsigned_Decides a.scope b.scope).0 q.0) ((fields_Decides a.fields b.fields).0 q.1)),
  λ e. and_from _ _ ((kind_Decides a.kind b.kind).1 (ap (λ (d : Definition). d.kind) e))
      (and_from _ _ ((unsigned_Decides a.scope b.scope).1 (ap (λ (d : Definition). d.scope) e)) ((fields_Decides a.fields b.fields).1 (ap (λ (d : Definition). d.fields) e))),
)

pub equivalence : IsEquivalence same_definition
equivalence = record {
  refl = λ a. (definition_Decides a a).1 refl;
  symm = λ a b. both_ways (same_definition a b) (same_definition b a) (λ e. (definition_Decides b a).1 (sym ((definition_Decides a b).0 e))) (λ e. (definition_Decides a b).1 (sym ((definition_Decides b a).0 e)));
  congr = λ a b d e. ap (λ (x : Definition). same_definition x d) ((definition_Decides a b).0 e);
}

pub partial_equivalence : IsPartialEquivalence same_definition
partial_equivalence = partial_equiv_from_equiv equivalence
