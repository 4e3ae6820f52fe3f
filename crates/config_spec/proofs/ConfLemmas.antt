-- A description without a fault keeps its form.
use Rattle.std.proofs.Common.{◌≡◌, ◌≤◌, ℕ, Bool, true, false, not, if◌then◌else◌, List, [], ◌∷◌, Option, Some, None, Ok, slice_get, refl, subst, lit≤, arith}
use Rattle.std.specs.List.{AllByRecursion}
use Rattle.toml.specs.Data.{Members}
use Rattle.config_spec.specs.declared.key.Version.{Version}
use Rattle.config_spec.specs.declared.key.Version.TheVariants as V
use Rattle.config_spec.specs.declared.key.Key.{Key}
use Rattle.config_spec.specs.declared.key.Key.TheVariants as K
use Rattle.config_spec.specs.declared.key.TableKind.{TableKind}
use Rattle.config_spec.specs.declared.key.TableKind.TheVariants as T
use Rattle.config_spec.specs.declared.key.TableSort.{TableSort}
use Rattle.config_spec.specs.declared.key.TableSort.TheVariants as Sort
use Rattle.config_spec.specs.declared.fault.ConfFault.{ConfFault}
use Rattle.std.specs.Option.{option_or}
use Rattle.std.proofs.lemmas.Bool.{and_parts}
use Rattle.config_spec.specs.declared.key_row.Shape.TheVariants as S
use Rattle.config_spec.specs.Keys as row
use Rattle.config_spec.specs.Keys.{rows_of, kinds_of, children_of}
use Rattle.config_spec.specs.Fits.{text_found, text_at, is_name, least_at, is_there, are_domains, text_test, fits}
use Rattle.config_spec.specs.Faults.{Path, key_fault, keys_fault, unknown_fault, own_fault, table_fault, array_fault, arrays_fault, whole_fault, inner_fault, kind_of, items_at, is_one_table, top_kind, version_of, tables_fault}
use Rattle.config_spec.specs.Values.{number_of, prefix_at, address_at, domain_set, domains_of, pair_of, test_in, rule_of, anon_row_of, anon_table_of, filter_table_of, work_in, stage_of, spec_of, input_of, output_in, output_of, conf_in, conf_of}
use Rattle.config_spec.specs.Form.{IsInput, IsPrefix, IsTest, IsRule, IsPair, IsAnonRow, IsFilter, IsAnonymiser, IsWork, IsStage, IsDomainSet, IsOutputKind, IsOutput, IsConf}
use Rattle.config_spec.specs.Description.{unless_fault, tree_of, tree_conf, tree_fault, description}
use Rattle.config_spec.specs.Laws.{KeepForm}
use Rattle.config_spec.proofs.FirstLemmas.{first_of_two, no_fault_at, kind_same, table_kept, tables_kept}
use Rattle.config_spec.proofs.NumberLemmas.{number_ranged, required_ranged, required_number, within_same, name_kept, text_right, found_right, optional_counted, required_counted, places_counted}
use Rattle.config_spec.proofs.PrefixLemmas.{prefix_there, like_kept, domains_there}

-- the second key of these kinds is the name
abbrev Named : TableKind → Type 0
Named kind = slice_get (rows_of V.One kind) 1 ≡ Some row.name

named : (sort : TableSort) (path : Path) (entries : Members) (choice : row.choice_of sort ≡ row.choice_of Sort.Input) → AllByRecursion Named (kinds_of V.One sort) → table_fault V.One sort path entries ≡ None
    → is_name (text_at K.Name entries) ≡ true
named sort path entries choice all e =
    let kept = table_kept sort path entries e in
    name_kept path entries K.Name (no_fault_at path entries (rows_of V.One kept.0) row.name 1 kept.2 ((kind_same Named sort path entries kept.0 K.Kind choice all kept.1).1))

input_kept : (path : Path) (entries : Members) → whole_fault V.One Sort.Input path entries ≡ None → IsInput (input_of V.One entries)
unfolding whole_fault input_of spec_of rows_of kinds_of
input_kept path entries e =
    let own = (first_of_two (table_fault V.One Sort.Input path entries) (inner_fault (table_fault V.One) V.One path entries (kind_of V.One Sort.Input path entries)) e).0 in
    record {
      name = named Sort.Input path entries refl (refl, (refl, (refl, tt))) own;
      stop_after = (number_ranged K.StopAfter 0 row.most 0 entries (lit≤ tt) (lit≤ tt)).1;
      life = record {
        template = number_ranged K.TemplateLifetime 1 1000000000 1800 entries (lit≤ tt) (lit≤ tt);
        options = number_ranged K.OptionsLifetime 1 1000000000 1800 entries (lit≤ tt) (lit≤ tt);
        late = number_ranged K.Late 1 1000000000 1800 entries (lit≤ tt) (lit≤ tt);
      };
      idle = number_ranged K.Idle 1 1000000000 600 entries (lit≤ tt) (lit≤ tt);
    }

at_most : (a b c : ℕ) → a ≡ b → a ≤ c → b ≤ c
at_most a b c e h = omega arith

both_at_most : (a b c d : ℕ) → a ≡ c → b ≡ d → c ≤ d → a ≤ b
both_at_most a b c d e f h = omega arith

between_kept : (path : Path) (entries : Members) → key_fault path entries row.low ≡ None → key_fault path entries row.high ≡ None
    → (number_of row.low entries ≤ number_of row.high entries) × (number_of row.high entries ≤ row.most)
unfolding fits number_of least_at
between_kept path entries l h =
    let low = required_number path entries K.Low (S.Number 0 row.most) 0 row.most (λ value. refl) l in
    let high = required_number path entries K.High (S.From K.Low row.most) (least_at K.Low entries) row.most (λ value. refl) h in
    let least : least_at K.Low entries ≡ low.0 = rw (low.1) refl in
    let below = at_most (least_at K.Low entries) low.0 high.0 least high.2 in
    let a : number_of row.low entries ≡ low.0 = rw (low.1) (within_same 0 row.most 0 low.0 low.2 low.3) in
    let b : number_of row.high entries ≡ high.0 = rw (high.1) (within_same (least_at K.Low entries) row.most 0 high.0 high.2 high.3) in
    (both_at_most (number_of row.low entries) (number_of row.high entries) low.0 high.0 a b below, both_at_most (number_of row.high entries) row.most high.0 row.most b refl high.3)

prefix_at_kept : (path : Path) (entries : Members) (key : Key) → key_fault path entries (row.required key S.Prefix) ≡ None → IsPrefix (prefix_at key entries)
unfolding fits text_test prefix_at
prefix_at_kept path entries key e = prefix_there (text_at key entries) (text_right path entries key S.Prefix (λ value. refl) e)

test_kept : (kind : TableKind) (path : Path) (entries : Members) → keys_fault path (rows_of V.One kind) entries ≡ None → IsTest (test_in kind entries)
unfolding rows_of
test_kept T.Equal path entries e = required_ranged K.Value row.most entries
test_kept T.Between path entries e =
    between_kept path entries (no_fault_at path entries (rows_of V.One T.Between) row.low 4 e refl) (no_fault_at path entries (rows_of V.One T.Between) row.high 5 e refl)
test_kept T.Prefix path entries e = prefix_at_kept path entries K.Value (no_fault_at path entries (rows_of V.One T.Prefix) row.value_prefix 4 e refl)
test_kept _ path entries e = tt

rule_kept : (path : Path) (entries : Members) → table_fault V.One Sort.Rule path entries ≡ None → IsRule (rule_of V.One entries)
unfolding rule_of kinds_of
rule_kept path entries e =
    let kept = table_kept Sort.Rule path entries e in
    let same = (kind_same (λ kind. Unit {0}) Sort.Rule path entries kept.0 K.Test refl (tt, (tt, (tt, (tt, tt)))) kept.1).0 in
    record { id = required_ranged K.Id 32767 entries; test = rw same (test_kept kept.0 path entries kept.2) }

pair_kept : (path : Path) (entries : Members) → table_fault V.One Sort.Field path entries ≡ None → IsPair (pair_of entries)
unfolding pair_of
pair_kept path entries e = required_ranged K.Id 32767 entries

anon_row_kept : (path : Path) (entries : Members) → table_fault V.One Sort.Row path entries ≡ None → IsAnonRow (anon_row_of entries)
unfolding table_fault kind_of anon_row_of rows_of prefix_at address_at fits text_test
anon_row_kept path entries e =
    let keys = (first_of_two (unknown_fault path (rows_of V.One T.Row) entries) (keys_fault path (rows_of V.One T.Row) entries) e).1 in
    record {
      from = prefix_at_kept path entries K.From (no_fault_at path entries (rows_of V.One T.Row) row.from 0 keys refl);
      to = like_kept (text_at K.From entries) (text_at K.To entries) (text_right path entries K.To (S.Like K.From) (λ value. refl) (no_fault_at path entries (rows_of V.One T.Row) row.to 1 keys refl));
    }

filter_kept : (path : Path) (entries : Members) → keys_fault path (rows_of V.One T.Filter) entries ≡ None → arrays_fault (table_fault V.One) path (children_of V.One T.Filter) entries ≡ None
    → IsFilter (filter_table_of V.One entries)
unfolding rows_of children_of
filter_kept path entries e inner = record {
  few = optional_counted (rule_of V.One) path entries K.Rule 1024 (no_fault_at path entries (rows_of V.One T.Filter) row.rule 3 e refl);
  rules = tables_kept IsRule (rule_of V.One) (table_fault V.One Sort.Rule) rule_kept path K.Rule entries (first_of_two (array_fault (table_fault V.One Sort.Rule) path K.Rule entries) _ inner).0;
}

anonymiser_kept : (path : Path) (entries : Members) → keys_fault path (rows_of V.One T.Anonymise) entries ≡ None
    → arrays_fault (table_fault V.One) path (children_of V.One T.Anonymise) entries ≡ None → IsAnonymiser (anon_table_of entries)
unfolding rows_of children_of
anonymiser_kept path entries e inner =
    let one = first_of_two (array_fault (table_fault V.One Sort.Field) path K.Field entries) _ inner in
    let two = first_of_two (array_fault (table_fault V.One Sort.Row) path K.Row entries) _ one.1 in
    record {
      some = required_counted pair_of path entries K.Field 1 64 (no_fault_at path entries (rows_of V.One T.Anonymise) row.field 2 e refl);
      fields = tables_kept IsPair pair_of (table_fault V.One Sort.Field) pair_kept path K.Field entries one.0;
      cut4 = (number_ranged K.Cut4 0 32 32 entries (lit≤ tt) (lit≤ tt)).1;
      cut6 = (number_ranged K.Cut6 0 128 128 entries (lit≤ tt) (lit≤ tt)).1;
      few = optional_counted anon_row_of path entries K.Row 4096 (no_fault_at path entries (rows_of V.One T.Anonymise) row.row_of_rows 5 e refl);
      rows = tables_kept IsAnonRow anon_row_of (table_fault V.One Sort.Row) anon_row_kept path K.Row entries two.0;
    }

-- what an intermediate of a kind has
abbrev Works : TableKind → Type 0
Works kind = (path : Path) (entries : Members) → keys_fault path (rows_of V.One kind) entries ≡ None → arrays_fault (table_fault V.One) path (children_of V.One kind) entries ≡ None
    → IsWork (work_in V.One kind entries)

inner_kept : (path : Path) (entries : Members) (kind : TableKind) → kind_of V.One Sort.Intermediate path entries ≡ Ok kind → inner_fault (table_fault V.One) V.One path entries (kind_of V.One Sort.Intermediate path entries) ≡ None
    → arrays_fault (table_fault V.One) path (children_of V.One kind) entries ≡ None
inner_kept path entries kind is e = rw is at e

stage_kept : (path : Path) (entries : Members) → whole_fault V.One Sort.Intermediate path entries ≡ None → IsStage (stage_of V.One entries)
unfolding whole_fault stage_of rows_of kinds_of
stage_kept path entries e =
    let own = first_of_two (table_fault V.One Sort.Intermediate path entries) (inner_fault (table_fault V.One) V.One path entries (kind_of V.One Sort.Intermediate path entries)) e in
    let kept = table_kept Sort.Intermediate path entries own.0 in
    let kind = kind_same Works Sort.Intermediate path entries kept.0 K.Kind refl (filter_kept, (anonymiser_kept, tt)) kept.1 in
    record {
      name = named Sort.Intermediate path entries refl (refl, (refl, tt)) own.0;
      work = rw (kind.0) (kind.1 path entries kept.2 (inner_kept path entries kept.0 kept.1 own.1));
    }

-- what an output of a kind has
abbrev Writes : TableKind → Type 0
Writes kind = (slice_get (rows_of V.One kind) 3 ≡ Some row.odid_only) × (slice_get (rows_of V.One kind) 4 ≡ Some row.odid_except) × ((entries : Members) → IsOutputKind (output_in kind entries))

domains_kept : (path : Path) (entries : Members) → key_fault path entries row.odid_only ≡ None → key_fault path entries row.odid_except ≡ None → IsDomainSet (domains_of entries)
unfolding domains_of fits text_test
domains_kept path entries a b = at (text_found K.OdidOnly entries) (text_found K.OdidExcept entries) refl refl
  where
    at : (only except : Option (List ℕ)) → text_found K.OdidOnly entries ≡ only → text_found K.OdidExcept entries ≡ except → IsDomainSet (domain_set only except)
    at None None x y = tt
    at (Some only) except x y = domains_there only (found_right path entries K.OdidOnly S.Domains only (λ value. refl) a x)
    at None (Some except) x y =
        domains_there except ((and_parts (not (is_there K.OdidOnly entries)) (are_domains except) (found_right path entries K.OdidExcept (S.DomainsWithout K.OdidOnly) except (λ value. refl) b y)).1)

output_kept : (path : Path) (entries : Members) → whole_fault V.One Sort.Output path entries ≡ None → IsOutput (output_of V.One entries)
unfolding whole_fault output_of rows_of kinds_of
output_kept path entries e =
    let own = (first_of_two (table_fault V.One Sort.Output path entries) (inner_fault (table_fault V.One) V.One path entries (kind_of V.One Sort.Output path entries)) e).0 in
    let kept = table_kept Sort.Output path entries own in
    let ipfix : (es : Members) → IsOutputKind (output_in T.Ipfix es) = λ es. number_ranged K.LastTemplateId 256 65535 65535 es (lit≤ tt) (lit≤ tt) in
    let kind = kind_same Writes Sort.Output path entries kept.0 K.Kind refl ((refl, refl, λ es. tt), ((refl, refl, ipfix), ((refl, refl, λ es. tt), tt))) kept.1 in
    record {
      name = named Sort.Output path entries refl (refl, (refl, (refl, tt))) own;
      kind = rw (kind.0) (kind.1.2 entries);
      domains = domains_kept path entries (no_fault_at path entries (rows_of V.One kept.0) row.odid_only 3 kept.2 kind.1.0) (no_fault_at path entries (rows_of V.One kept.0) row.odid_except 4 kept.2 kind.1.1);
    }

-- the arrays of the top table
abbrev arrays : List (Key × TableSort)
arrays = (K.Input, Sort.Input) ∷ (K.Intermediate, Sort.Intermediate) ∷ (K.Output, Sort.Output) ∷ []

conf_from : (entries : Members) → key_fault [] entries row.elements ≡ None → key_fault [] entries row.input ≡ None → key_fault [] entries row.intermediate ≡ None
    → key_fault [] entries row.output ≡ None → arrays_fault (whole_fault V.One) [] arrays entries ≡ None → IsConf (conf_in V.One entries)
unfolding conf_in
conf_from entries elements input intermediate output e =
    let one = first_of_two (array_fault (whole_fault V.One Sort.Input) [] K.Input entries) _ e in
    let two = first_of_two (array_fault (whole_fault V.One Sort.Intermediate) [] K.Intermediate entries) _ one.1 in
    let three = first_of_two (array_fault (whole_fault V.One Sort.Output) [] K.Output entries) _ two.1 in
    record {
      ring = number_ranged K.Ring 1 4096 256 entries (lit≤ tt) (lit≤ tt);
      slots = number_ranged K.Slots 1 65536 65536 entries (lit≤ tt) (lit≤ tt);
      few_elements = places_counted [] entries K.Elements 16 elements;
      few_inputs = optional_counted (input_of V.One) [] entries K.Input 16 input;
      inputs = tables_kept IsInput (input_of V.One) (whole_fault V.One Sort.Input) input_kept [] K.Input entries one.0;
      few_stages = optional_counted (stage_of V.One) [] entries K.Intermediate 16 intermediate;
      stages = tables_kept IsStage (stage_of V.One) (whole_fault V.One Sort.Intermediate) stage_kept [] K.Intermediate entries two.0;
      few_outputs = optional_counted (output_of V.One) [] entries K.Output 32 output;
      outputs = tables_kept IsOutput (output_of V.One) (whole_fault V.One Sort.Output) output_kept [] K.Output entries three.0;
    }

conf_kept : (entries : Members) → tables_fault entries ≡ None → IsConf (conf_of entries)
unfolding tables_fault top_kind rows_of children_of
conf_kept entries e = by (version_of entries) (is_one_table (items_at K.Input entries)) e
  where
    by : (v : Version) (b : Bool) → option_or (own_fault [] (rows_of v (if b then T.SingleTop else T.Top)) entries) (arrays_fault (whole_fault v) [] (children_of v (if b then T.SingleTop else T.Top)) entries) ≡ None
        → IsConf (conf_in v entries)
    by V.One true e =
        let parts = first_of_two (own_fault [] (rows_of V.One T.SingleTop) entries) _ e in
        let keys = (first_of_two (unknown_fault [] (rows_of V.One T.SingleTop) entries) (keys_fault [] (rows_of V.One T.SingleTop) entries) parts.0).1 in
        conf_from entries (no_fault_at [] entries (rows_of V.One T.SingleTop) row.elements 3 keys refl) (no_fault_at [] entries (rows_of V.One T.SingleTop) row.input 4 keys refl)
        (no_fault_at [] entries (rows_of V.One T.SingleTop) row.intermediate 5 keys refl) (no_fault_at [] entries (rows_of V.One T.SingleTop) row.output 6 keys refl) parts.1
    by V.One false e =
        let parts = first_of_two (own_fault [] (rows_of V.One T.Top) entries) _ e in
        let keys = (first_of_two (unknown_fault [] (rows_of V.One T.Top) entries) (keys_fault [] (rows_of V.One T.Top) entries) parts.0).1 in
        conf_from entries (no_fault_at [] entries (rows_of V.One T.Top) row.elements 4 keys refl) (no_fault_at [] entries (rows_of V.One T.Top) row.input 5 keys refl)
        (no_fault_at [] entries (rows_of V.One T.Top) row.intermediate 6 keys refl) (no_fault_at [] entries (rows_of V.One T.Top) row.output 7 keys refl) parts.1

pub keep_form : KeepForm
unfolding description tree_fault
keep_form octets conf e = tree (tree_of octets) e
  where
    fault : (entries : Members) (o : Option ConfFault) → tree_fault entries ≡ o → unless_fault (conf_of entries) o ≡ Ok conf → IsConf conf
    fault entries (Some f) is e = absurd (cc)
    fault entries None is e = let same : conf_of entries ≡ conf = cc in subst IsConf same (conf_kept entries (first_of_two (tables_fault entries) _ is).0)

    tree : (o : Option Members) → tree_conf o ≡ Ok conf → IsConf conf
    tree None e = absurd (cc)
    tree (Some entries) e = fault entries (tree_fault entries) refl e
