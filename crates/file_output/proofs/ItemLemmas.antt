-- What is written of sets is what the definitions say of an item that has them.
use Rattle.std.proofs.Common.{◌≡◌, ℕ, ◌+◌, ◌<◌, ◌%◌, ◌^◌, Bool, true, false, cond, List, [], ◌∷◌, ◌++◌, length, refl, ap, sym, subst, ◌∙◌, map, filter, drop, not, arith, append-nil}
use Rattle.std.specs.Prelude.{fold, flat_map, sum_by, if◌then◌else◌, ◌==◌}
use Rattle.std.proofs.lemmas.Bool.{eq-eqb, ne_eqb, eqb-true}
use Rattle.std.proofs.lemmas.List.Sums.{fold-append, sum_by-append}
use Rattle.std.proofs.lemmas.Grind.{flat_map-append}
use Rattle.col_base.specs.declared.base.SessionKey.{SessionKey}
use Rattle.wire_spec.specs.Content.{Definition}
use Rattle.run_spec.specs.Outcome.{DecodedSet}
use Rattle.run_spec.specs.Work.{Item}
use Rattle.run_spec.specs.Work.Item.{Note, Tick, Data}
use Rattle.file_spec.specs.File.{message_of, set_of, place_of, with_definition, has_records, definitions_of, definitions_used, records_written, sequence_of, data_message, needed_by, octets_after}
use Rattle.file_output.specs.Sets.{Body, Domain, head_in, known_after, count_records, data_in, set_in, template_in, written_in, numbers_in, domain_after}
use Rattle.file_output.specs.Stands.{AreOfSets, IsItemOf, domain_of}
use Rattle.file_output.proofs.LimitLemmas.{mapped}

some_records : (n : ℕ) → 0 < n → not (n == 0) ≡ true
some_records n l = ap not (ne_eqb n 0 (λ e. omega (arith, l, e)))

-- one item more
grown : (items : List Item) (item : Item) (domain : ℕ) → definitions_of domain (items ++ item ∷ []) ≡ fold with_definition (definitions_of domain items) (definitions_used domain item)
grown items item domain =
    ap (fold with_definition []) (flat_map-append (definitions_used domain) items (item ∷ []))
    ∙ (fold-append with_definition [] (flat_map (definitions_used domain) items) (flat_map (definitions_used domain) (item ∷ []))
    ∙ ap (fold with_definition (definitions_of domain items)) (append-nil (definitions_used domain item)))

counted : (items : List Item) (item : Item) (domain : ℕ) → sequence_of domain (items ++ item ∷ []) ≡ (sequence_of domain items + records_written domain item) % 2 ^ 32
counted items item domain =
    let s = sum_by-append (records_written domain) items (item ∷ []) in
    omega arith

module _ {X : Type 0} (body : X → Body) where
  same_definitions : (sets : List X) (decoded : List DecodedSet) → AreOfSets body sets decoded → map (λ s. (body s).definition) sets ≡ map (λ d. d.definition) decoded
  same_definitions [] [] p = refl
  same_definitions [] (d ∷ decoded) p = absurd p
  same_definitions (s ∷ sets) [] p = absurd p
  same_definitions (s ∷ sets) (d ∷ decoded) p = λ i. p.0.definition i ∷ same_definitions sets decoded p.1 i

  all_have : (sets : List X) (decoded : List DecodedSet) → AreOfSets body sets decoded → filter has_records decoded ≡ decoded
  all_have [] [] p = refl
  all_have [] (d ∷ decoded) p = absurd p
  all_have (s ∷ sets) [] p = absurd p
  all_have (s ∷ sets) (d ∷ decoded) p =
      ap (λ b. cond b (d ∷ filter has_records decoded) (filter has_records decoded)) (some_records (length d.records) p.0.some) ∙ ap (λ l. d ∷ l) (all_have sets decoded p.1)

  same_count : (n : ℕ) (sets : List X) (decoded : List DecodedSet) → AreOfSets body sets decoded → fold (λ a s. a + (body s).records) n sets ≡ fold (λ a d. a + length d.records) n decoded
  same_count n [] [] p = refl
  same_count n [] (d ∷ decoded) p = absurd p
  same_count n (s ∷ sets) [] p = absurd p
  same_count n (s ∷ sets) (d ∷ decoded) p = ap (λ r. fold (λ a x. a + (body x).records) (n + r) sets) p.0.records ∙ same_count (n + length d.records) sets decoded p.1

  same_sets : (known : List Definition) (sets : List X) (decoded : List DecodedSet) → AreOfSets body sets decoded
      → flat_map (λ s. set_in known (body s)) sets ≡ flat_map (λ d. set_of (255 + place_of d.definition known) (flat_map (λ r. r.octets) d.records)) decoded
  same_sets known [] [] p = refl
  same_sets known [] (d ∷ decoded) p = absurd p
  same_sets known (s ∷ sets) [] p = absurd p
  same_sets known (s ∷ sets) (d ∷ decoded) p = λ i. set_of (255 + place_of (p.0.definition i) known) (p.0.octets i) ++ same_sets known sets decoded p.1 i

  same_data : (export domain : ℕ) (items : List Item) (item : Item) (sets : List X) (decoded : List DecodedSet) → AreOfSets body sets decoded
      → data_in body (head_in export domain (domain_of items domain)) (definitions_of domain (items ++ item ∷ [])) sets ≡ data_message export domain items item decoded
  same_data export domain items item [] [] p = refl
  same_data export domain items item [] (d ∷ decoded) p = absurd p
  same_data export domain items item (s ∷ sets) [] p = absurd p
  same_data export domain items item (s ∷ sets) (d ∷ decoded) p =
      ap (message_of export (sequence_of domain items) domain) (same_sets (definitions_of domain (items ++ item ∷ [])) (s ∷ sets) (d ∷ decoded) p)

  module _ (items : List Item) (key : SessionKey) (domain export sequence : ℕ) (sets : List X) (decoded : List DecodedSet) (p : AreOfSets body sets decoded) where
    used_here : definitions_used domain (Data key domain export sequence decoded) ≡ map (λ s. (body s).definition) sets
    used_here =
        ap (λ b. cond b (map (λ d. d.definition) (filter has_records decoded)) []) (eq-eqb domain domain refl)
        ∙ (ap (map (λ d. d.definition)) (all_have sets decoded p) ∙ sym (same_definitions sets decoded p))

    known_now : definitions_of domain (items ++ Data key domain export sequence decoded ∷ []) ≡ known_after body (definitions_of domain items) sets
    known_now = grown items (Data key domain export sequence decoded) domain ∙ ap (fold with_definition (definitions_of domain items)) used_here

    pub item_written : written_in body (head_in export domain (domain_of items domain)) (definitions_of domain items) sets ≡ octets_after items (Data key domain export sequence decoded)
    item_written =
        let item = Data key domain export sequence decoded in
        let head = head_in export domain (domain_of items domain) in
        let known = definitions_of domain items in
        let after = definitions_of domain (items ++ item ∷ []) in
        ap (λ l. flat_map (template_in head l) (drop (length known) l) ++ data_in body head l sets) (sym known_now)
        ∙ ap (λ o. flat_map (template_in head after) (drop (length known) after) ++ o)
        (same_data export domain items item sets decoded p ∙ ap (data_message export domain items item) (sym (all_have sets decoded p)))

    pub item_needs : numbers_in body (definitions_of domain items) sets ≡ needed_by (items ++ Data key domain export sequence decoded ∷ []) (Data key domain export sequence decoded)
    item_needs =
        let item = Data key domain export sequence decoded in
        ap (λ l. map (λ s. 255 + place_of (body s).definition l) sets) (sym known_now)
        ∙ (mapped (λ s. (body s).definition) (λ d. 255 + place_of d (definitions_of domain (items ++ item ∷ []))) sets
        ∙ (ap (map (λ d. 255 + place_of d (definitions_of domain (items ++ item ∷ [])))) (same_definitions sets decoded p)
        ∙ (sym (mapped (λ d. d.definition) (λ d. 255 + place_of d (definitions_of domain (items ++ item ∷ []))) decoded)
        ∙ ap (map (λ d. 255 + place_of d.definition (definitions_of domain (items ++ item ∷ [])))) (sym (all_have sets decoded p)))))

    here : domain_after body (domain_of items domain) sets ≡ domain_of (items ++ Data key domain export sequence decoded ∷ []) domain
    here =
        let item = Data key domain export sequence decoded in
        let written : records_written domain item ≡ sum_by (λ d. length d.records) decoded = ap (λ b. cond b (sum_by (λ d. length d.records) decoded) 0) (eq-eqb domain domain refl) in
        let next : (sequence_of domain items + count_records body sets) % 2 ^ 32 ≡ sequence_of domain (items ++ item ∷ []) =
        ap (λ n. (sequence_of domain items + n) % 2 ^ 32) (same_count 0 sets decoded p ∙ sym written) ∙ sym (counted items item domain) in
        λ i. record { known = sym known_now i; sequence = next i }

    elsewhere : (other : ℕ) → (domain == other) ≡ false → domain_of items other ≡ domain_of (items ++ Data key domain export sequence decoded ∷ []) other
    elsewhere other e =
        let item = Data key domain export sequence decoded in
        let none : definitions_used other item ≡ [] = ap (λ b. cond b (map (λ d. d.definition) (filter has_records decoded)) []) e in
        let known : definitions_of other (items ++ item ∷ []) ≡ definitions_of other items = grown items item other ∙ ap (fold with_definition (definitions_of other items)) none in
        let zero_written : records_written other item ≡ 0 = ap (λ b. cond b (sum_by (λ d. length d.records) decoded) 0) e in
        let small = counted items item other in
        let next : sequence_of other items ≡ sequence_of other (items ++ item ∷ []) = omega arith in
        λ i. record { known = sym known i; sequence = next i }

    pub item_stands : (other : ℕ) → (if domain == other then domain_after body (domain_of items domain) sets else domain_of items other) ≡ domain_of (items ++ Data key domain export sequence decoded ∷ []) other
    item_stands other = by (domain == other) refl
      where
        by : (b : Bool) → (domain == other) ≡ b → cond b (domain_after body (domain_of items domain) sets) (domain_of items other) ≡ domain_of (items ++ Data key domain export sequence decoded ∷ []) other
        by true e = here ∙ ap (domain_of (items ++ Data key domain export sequence decoded ∷ [])) (eqb-true domain other e)
        by false e = elsewhere other e

  -- an item behind others, by what is kept of its domain
  pub one_more : (items : List Item) (item : Item) (domain export : ℕ) (sets : List X) (known : Domain) → known ≡ domain_of items domain → IsItemOf body domain export sets item
      → (written_in body (head_in export domain known) known.known sets ≡ octets_after items item)
      × (numbers_in body known.known sets ≡ needed_by (items ++ item ∷ []) item)
      × ((other : ℕ) → (if domain == other then domain_after body known sets else domain_of items other) ≡ domain_of (items ++ item ∷ []) other)
  one_more items (Note key transport opened) domain export sets known e p = absurd p
  one_more items (Tick input seconds) domain export sets known e p = absurd p
  one_more items (Data key d x sequence decoded) domain export sets known e p =
      subst (λ (k : Domain). (written_in body (head_in export domain k) k.known sets ≡ octets_after items (Data key d x sequence decoded)) × (numbers_in body k.known sets ≡ needed_by (items ++ Data key d x sequence decoded ∷ []) (Data key d x sequence decoded)) × ((other : ℕ) → (if domain == other then domain_after body k sets else domain_of items other) ≡ domain_of (items ++ Data key d x sequence decoded ∷ []) other))
      (sym e)
      (subst (λ (t : ℕ). (written_in body (head_in export domain (domain_of items domain)) (definitions_of domain items) sets ≡ octets_after items (Data key d t sequence decoded)) × (numbers_in body (definitions_of domain items) sets ≡ needed_by (items ++ Data key d t sequence decoded ∷ []) (Data key d t sequence decoded)) × ((other : ℕ) → (if domain == other then domain_after body (domain_of items domain) sets else domain_of items other) ≡ domain_of (items ++ Data key d t sequence decoded ∷ []) other))
      p.1
      (subst (λ (q : ℕ). (written_in body (head_in export domain (domain_of items domain)) (definitions_of domain items) sets ≡ octets_after items (Data key q export sequence decoded)) × (numbers_in body (definitions_of domain items) sets ≡ needed_by (items ++ Data key q export sequence decoded ∷ []) (Data key q export sequence decoded)) × ((other : ℕ) → (if domain == other then domain_after body (domain_of items domain) sets else domain_of items other) ≡ domain_of (items ++ Data key q export sequence decoded ∷ []) other))
      p.0
      (item_written items key domain export sequence sets decoded p.2, item_needs items key domain export sequence sets decoded p.2, item_stands items key domain export sequence sets decoded p.2)))
