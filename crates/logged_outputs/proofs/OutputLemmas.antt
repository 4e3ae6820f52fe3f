-- An output, one message more.
use Rattle.std.proofs.Common.{◌≡◌, ℕ, suc, ◌+◌, ◌≤◌, ◌<◌, Bool, true, false, cond, List, [], ◌∷◌, ◌++◌, Option, Some, None, length, take, map, refl, ap, sym, subst, ◌∙◌, arith, append_assoc, append-nil}
use Rattle.std.specs.Prelude.{MatchOption, is_some, filter, Result, Ok, Err}
use Rattle.std.specs.List.{cons_option}
use Rattle.std.proofs.lemmas.List.{take_all, take-append-le, length-append}
use Rattle.std.proofs.Math.Nat.{lt_of_not-le}
use Rattle.std.proofs.lemmas.List.Elements.{filter-append}
use Rattle.config_spec.specs.declared.conf.OutputConf.{OutputConf}
use Rattle.config_spec.specs.declared.conf.OutputKind.{OutputKind}
use Rattle.config_spec.specs.declared.conf.OutputKind.TheVariants.{Json, Ipfix, View}
use Rattle.text_spec.specs.declared.element.Element.{Element}
use Rattle.run_spec.specs.Work.{Item}
use Rattle.run_spec.specs.Result.{json_text}
use Rattle.run_spec.specs.View.{view_text}
use Rattle.run_spec.proofs.TextLemmas.{lines_append, views_append}
use Rattle.file_spec.specs.File.{file_after, file_needs, file_octets}
use Rattle.file_spec.proofs.MoreLemmas.{file_append}
use Rattle.file_spec.proofs.NeedLemmas.{needs_grow, within_one, within_stays}
use Rattle.file_spec.specs.Limit.{items_within}
use Rattle.result_spec.specs.Result.{Exceeds, items_held, text_by}
use Rattle.result_spec.specs.Through.{is_for}
use Rattle.site_io.specs.Writes.{Grows, GrowsTotal, Took, Writes, standing}
use Rattle.site_io.specs.Outside.{Counts}
use Rattle.site_io.specs.declared.outside.OutsideFault.{OutsideFault}
use Rattle.site_io.specs.declared.outside.OutsideFault.TheVariants as outside
use Rattle.call_spec.specs.declared.end.OutputFault.{OutputFault}
use Rattle.call_spec.specs.declared.end.OutputFault.TheVariants as fault
use Rattle.call_spec.specs.Counts.{MovesBy}
use Rattle.call_spec.specs.Ends.{output_failed}
use Rattle.pipeline_message.specs.declared.message.Msg.{Msg}
use Rattle.pipeline_message.specs.Items.{item_of, items_of}
use Rattle.message_texts.specs.declared.texts.TextFault.{TextFault}
use Rattle.message_texts.specs.declared.texts.TextFault.TheVariants as text
use Rattle.message_texts.specs.Puts.{ExceedsAt, MeetsLimit, Puts, items_at, text_at}
use Rattle.logged_outputs.specs.declared.output.Output.{Output}
use Rattle.logged_outputs.specs.Outputs.{GrewBy, HoldsAll, HoldsEnded, HoldsPart, OutputHas, PutsMessage, TookAll, TookFront, Wrote, fault_by, fault_from}

-- ---- the text of some items begins that of more

by_kind : (table : List Element) (kind : OutputKind) (items more : List Item) → (rest : List ℕ) × (text_by table kind (items ++ more) ≡ text_by table kind items ++ rest)
by_kind table (Json options) items more = (json_text options table more, lines_append options table items more)
by_kind table (Ipfix last) items more = (file_after items more, file_append items more)
by_kind table View items more = (view_text table more, views_append table items more)

at_more : (output : OutputConf) (items more : List Item) → items_at output (items ++ more) ≡ items_at output items ++ items_at output more
at_more output items more = filter-append (is_for output.domains) items more

text_begins : (output : OutputConf) (table : List Element) (items more : List Item) → (rest : List ℕ) × (text_at table output (items ++ more) ≡ text_at table output items ++ rest)
text_begins output table items more =
    let b = by_kind table output.kind (items_at output items) (items_at output more) in
    (b.0, ap (text_by table output.kind) (at_more output items more) ∙ b.1)

-- ---- what is exceeded stays so, and what can be held then

exceeds_more : (kind : OutputKind) (items more : List Item) → Exceeds kind items → Exceeds kind (items ++ more)
exceeds_more (Json options) items more e = absurd e
exceeds_more (Ipfix last) items more e = let g = needs_grow items more in omega (arith, e, g)
exceeds_more View items more e = absurd e

held_more : (kind : OutputKind) (items more : List Item) → Exceeds kind items → items_held kind (items ++ more) ≡ items_held kind items
held_more (Json options) items more e = absurd e
held_more (Ipfix last) items more e = within_stays last items more e
held_more View items more e = absurd e

not_over : (a b : ℕ) → (a < b → ⊥) → b ≤ a
not_over a b f = let l = lt_of_not-le {n = suc a} {m = b} f in omega (arith, l)

-- where one item more is the first to exceed, those before it are held
held_before : (kind : OutputKind) (items more : List Item) → length more ≤ 1 → (Exceeds kind items → ⊥) → Exceeds kind (items ++ more) → items_held kind (items ++ more) ≡ items
held_before (Json options) items more few e f = absurd f
held_before (Ipfix last) items [] few e f = absurd (e (subst (λ (l : List Item). last < file_needs l) (append-nil items) f))
held_before (Ipfix last) items (i ∷ []) few e f = within_one last items i (not_over last (file_needs items) e) f
held_before (Ipfix last) items (i ∷ (j ∷ more)) few e f = absurd (omega (arith, few))
held_before View items more few e f = absurd f

-- a message has one item at most, and so has an output of it
one_item : (message : Msg) → length (items_of (message ∷ [])) ≤ 1
one_item message = of_option (item_of message)
  where
    of_option : (o : Option Item) → length (cons_option o []) ≤ 1
    of_option None = omega arith
    of_option (Some i) = omega arith

few_at : (output : OutputConf) (items : List Item) → length items ≤ 1 → length (items_at output items) ≤ 1
few_at output [] few = omega arith
few_at output (i ∷ []) few = elim (is_for output.domains i) as (λ b. length (cond b (i ∷ []) []) ≤ 1) [ true ↦ omega arith | false ↦ omega arith ]
few_at output (i ∷ (j ∷ more)) few = absurd (omega (arith, few))

-- ---- what a sink holds, and its number

grows_none : (a : Option (List ℕ)) → Grows a a []
grows_none None = tt
grows_none (Some xs) = sym (append-nil xs)

grows_more : (a b c : Option (List ℕ)) (first second : List ℕ) → Grows a b first → Grows b c second → Grows a c (first ++ second)
grows_more None b c first second p q = tt
grows_more (Some xs) None c first second p q = absurd p
grows_more (Some xs) (Some ys) None first second p q = absurd q
grows_more (Some xs) (Some ys) (Some zs) first second p q = q ∙ (ap (λ l. l ++ second) p ∙ append_assoc xs first second)

grew_none : (o : Option ℕ) → GrewBy [] o o
grew_none o n most is = is ∙ ap Some (let e : n ≡ standing (n + 0) = omega (arith, most) in e)

grew_more : (a b c : Option ℕ) (first second : List ℕ) → GrewBy first a b → GrewBy second b c → GrewBy (first ++ second) a c
grew_more a b c first second p q n most is =
    let long = length-append first second in
    q (standing (n + length first)) (omega arith) (p n most is)
    ∙ ap Some (let e : standing (standing (n + length first) + length second) ≡ standing (n + length (first ++ second)) = omega (arith, long) in e)

front_joined : (xs ys : List ℕ) (n : ℕ) → take (length xs + n) (xs ++ ys) ≡ xs ++ take n ys
front_joined [] ys n = ap (λ k. take k ys) (omega arith)
front_joined (x ∷ xs) ys n = ap (λ k. take k (x ∷ (xs ++ ys))) (let e : length (x ∷ xs) + n ≡ suc (length xs + n) = omega arith in e) ∙ ap (λ l. x ∷ l) (front_joined xs ys n)

module _ {K : Type 0} (held : K → Option (List ℕ)) (total : K → Option ℕ) (faults : K → ℕ) where
  abbrev All : List ℕ → K → K → Type 0
  All octets a b = TookAll held total faults octets a b

  pub took_none : (sink : K) → TookAll held total faults [] sink sink
  took_none sink = (grows_none (held sink), grew_none (total sink))

  took_then : (a b c : K) (first second : List ℕ) → All first a b → All second b c → All (first ++ second) a c
  took_then a b c first second p q = (grows_more (held a) (held b) (held c) first second p.0 q.0, grew_more (total a) (total b) (total c) first second p.1 q.1)

  number_from : (old new : Option ℕ) (octets : List ℕ) → GrowsTotal old new octets → GrewBy octets old new
  number_from None new octets g n most is = absurd cc
  number_from (Some m) None octets g n most is = absurd g
  number_from (Some m) (Some k) octets g n most is = ap Some g ∙ ap (λ x. Some (standing (x + length octets))) (some_is m n is)
    where
      some_is : (m n : ℕ) → Some m ≡ Some n → m ≡ n
      some_is m n e = cc e

  took_from : (sink now_sink : K) (octets : List ℕ) → Took (held sink) (held now_sink) (total sink) (total now_sink) octets → All octets sink now_sink
  took_from sink now_sink octets t = (t.octets, number_from (total sink) (total now_sink) octets t.number)

  same_all : (sink now_sink : K) → held now_sink ≡ held sink → total now_sink ≡ total sink → All [] sink now_sink
  same_all sink now_sink h t =
      (subst (λ o. Grows (held sink) o []) (sym h) (grows_none (held sink)), subst (λ o. GrewBy [] (total sink) o) (sym t) (grew_none (total sink)))

  -- a write that was whole, or refused
  pub wrote_whole : (sink now_sink : K) (octets : List ℕ) → Writes (held sink) (held now_sink) (total sink) (total now_sink) (Ok tt) octets → faults now_sink ≡ faults sink → Wrote held total faults octets sink now_sink None
  wrote_whole sink now_sink octets w c = (took_from sink now_sink octets w, c)

  pub wrote_none : (sink : K) (octets : List ℕ) → length octets ≡ 0 → Wrote held total faults octets sink sink None
  wrote_none sink [] e = (took_none sink, refl)
  wrote_none sink (x ∷ octets) e = absurd (omega (arith, e))

  pub wrote_less : (f : OutsideFault) (sink now_sink : K) (octets : List ℕ) → Writes (held sink) (held now_sink) (total sink) (total now_sink) (Err f) octets → Counts {T = Unit {0}} (faults sink) (faults now_sink) (Err f)
      → Wrote held total faults octets sink now_sink (Some (fault_from f))
  wrote_less outside.Failed sink now_sink octets w c = ((w.0, w.1, took_from sink now_sink (take w.0 octets) w.2), c)
  wrote_less outside.NoMemory sink now_sink octets w c = ((0, omega arith, same_all sink now_sink w.0 w.1), c)

  -- ---- one output

  front_more : (sink now_sink : K) (octets rest : List ℕ) → TookFront held total faults octets sink now_sink → TookFront held total faults (octets ++ rest) sink now_sink
  front_more sink now_sink octets rest h =
      let n = h.0 in
      let long : n ≤ length (octets ++ rest) = (let e = length-append octets rest in let m = h.1 in omega (arith, e, m)) in
      (n, long, subst (λ t. All t sink now_sink) (sym (take-append-le n octets rest h.1)) h.2)

  whole_front : (sink now_sink : K) (octets rest : List ℕ) → All octets sink now_sink → TookFront held total faults (octets ++ rest) sink now_sink
  whole_front sink now_sink octets rest h =
      let long : length octets ≤ length (octets ++ rest) = (let e = length-append octets rest in omega (arith, e)) in
      (length octets, long, subst (λ t. All t sink now_sink) (sym (take-append-le (length octets) octets rest (omega arith) ∙ take_all (length octets) octets (omega arith))) h)

  -- a front behind what was taken whole
  joined_front : (a b c : K) (first second : List ℕ) → All first a b → TookFront held total faults second b c → TookFront held total faults (first ++ second) a c
  joined_front a b c first second p h =
      let n = h.0 in
      let long : length first + n ≤ length (first ++ second) = (let e = length-append first second in let m = h.1 in omega (arith, e, m)) in
      (length first + n, long, subst (λ t. All t a c) (sym (front_joined first second n)) (took_then a b c first (take n second) p h.2))

  module _ (output : OutputConf) (table : List Element) where
    ended_more : (items more : List Item) (f : OutputFault) (sink now_sink : K) → HoldsEnded held total faults f table output items sink now_sink → HoldsEnded held total faults f table output (items ++ more) sink now_sink
    ended_more items more fault.Failed sink now_sink h = let b = text_begins output table items more in subst (λ t. TookFront held total faults t sink now_sink) (sym b.1) (front_more sink now_sink (text_at table output items) b.0 h)
    ended_more items more fault.NoMemory sink now_sink h = let b = text_begins output table items more in subst (λ t. TookFront held total faults t sink now_sink) (sym b.1) (front_more sink now_sink (text_at table output items) b.0 h)
    ended_more items more fault.Limit sink now_sink h =
        let at = at_more output items more in (
          subst (λ (l : List Item). Exceeds output.kind l) (sym at) (exceeds_more output.kind (items_at output items) (items_at output more) h.0),
          subst (λ (l : List Item). All (text_by table output.kind l) sink now_sink) (sym (ap (items_held output.kind) at ∙ held_more output.kind (items_at output items) (items_at output more) h.0)) h.1,
        )

    module _ {T : Type 0} (stands : OutputConf → List Element → List Item → T → Type 0) where
      abbrev Has : List Item → Output T K → Output T K → Type 0
      Has items first now = OutputHas held total faults stands output table items first now

      -- one that has ended stays as it is
      stays_ended : (items more : List Item) (first old : Output T K) (f : OutputFault) → old.fault ≡ Some f → Has items first old → Has (items ++ more) first old
      stays_ended items more first old f is h =
          let part = subst (λ (o : Option OutputFault). MatchOption o (HoldsAll held total faults stands output table items first old) (HoldsPart held total faults stands output table items first old)) is h in
          subst (λ (o : Option OutputFault). MatchOption o (HoldsAll held total faults stands output table (items ++ more) first old) (HoldsPart held total faults stands output table (items ++ more) first old)) (sym is)
          (record { holds = ended_more items more f first.sink old.sink part.holds; counts = part.counts })

      pub stays : (items more : List Item) (first old : Output T K) → is_some old.fault ≡ true → Has items first old → Has (items ++ more) first old
      stays items more first old some h = by_fault old.fault refl some
        where
          by_fault : (o : Option OutputFault) → old.fault ≡ o → is_some o ≡ true → Has (items ++ more) first old
          by_fault None is some = absurd cc
          by_fault (Some f) is some = stays_ended items more first old f is h

      holds_all : (items : List Item) (first old : Output T K) → old.fault ≡ None → Has items first old → HoldsAll held total faults stands output table items first old
      holds_all items first old none h = subst (λ (o : Option OutputFault). MatchOption o (HoldsAll held total faults stands output table items first old) (HoldsPart held total faults stands output table items first old)) none h

module _ {T K : Type 0} (stands : OutputConf → List Element → List Item → T → Type 0) (held : K → Option (List ℕ)) (total : K → Option ℕ) (faults : K → ℕ) where
  pub put_stays : (message : Msg) (old : Output T K) → is_some old.fault ≡ true → PutsMessage held total faults stands message old old
  put_stays message old some output table items first h = stays held total faults output table stands items (items_of (message ∷ [])) first old some h

  -- the text of a message was made, and written or not
  pub put_text : (last : T → List ℕ) (message : Msg) (old : Output T K) (texts : T) (sink : K) (f : Option OutputFault) → old.fault ≡ None → Puts stands last message old.texts texts → Wrote held total faults (last texts) old.sink sink f
      → PutsMessage held total faults stands message old (record { texts = texts; sink = sink; fault = f })
  put_text last message old texts sink None none p w output table items first h =
      let all = holds_all held total faults output table stands items first old none h in
      let put = p output table items all.makes in
      record {
        makes = put.stands_for;
        holds = subst (λ t. TookAll held total faults t first.sink sink) (sym put.grows) (took_then held total faults first.sink old.sink sink (text_at table output items) (last texts) all.holds w.0);
        counts = w.1 ∙ all.counts;
        enough = put.enough;
      }
  put_text last message old texts sink (Some fault.Failed) none p w output table items first h =
      let all = holds_all held total faults output table stands items first old none h in
      let put = p output table items all.makes in
      record {
        holds = subst (λ t. TookFront held total faults t first.sink sink) (sym put.grows) (joined_front held total faults first.sink old.sink sink (text_at table output items) (last texts) all.holds w.0);
        counts = subst (λ m. MovesBy true m (faults sink)) all.counts w.1;
      }
  put_text last message old texts sink (Some fault.Limit) none p w output table items first h = absurd w
  put_text last message old texts sink (Some fault.NoMemory) none p w output table items first h =
      let all = holds_all held total faults output table stands items first old none h in
      let put = p output table items all.makes in
      record {
        holds = subst (λ t. TookFront held total faults t first.sink sink) (sym put.grows) (joined_front held total faults first.sink old.sink sink (text_at table output items) (last texts) all.holds w.0);
        counts = subst (λ m. MovesBy false m (faults sink)) all.counts w.1;
      }

  -- no text was made, and nothing is written
  pub put_refused : (message : Msg) (old : Output T K) (texts : T) (f : TextFault) → old.fault ≡ None → MeetsLimit stands f message old.texts → PutsMessage held total faults stands message old (record { texts = texts; sink = old.sink; fault = Some (fault_by f) })
  put_refused message old texts text.Limit none meets output table items first h =
      let all = holds_all held total faults output table stands items first old none h in
      let more = items_of (message ∷ []) in
      let at = at_more output items more in
      let over = meets output table items all.makes in
      let kept = held_before output.kind (items_at output items) (items_at output more) (few_at output more (one_item message)) all.enough (subst (λ (l : List Item). Exceeds output.kind l) at over) in
      record {
        holds = (over, subst (λ (l : List Item). TookAll held total faults (text_by table output.kind l) first.sink old.sink) (sym (ap (items_held output.kind) at ∙ kept)) all.holds);
        counts = all.counts;
      }
  put_refused message old texts text.NoMemory none meets output table items first h =
      let all = holds_all held total faults output table stands items first old none h in
      let b = text_begins output table items (items_of (message ∷ [])) in
      record {
        holds = subst (λ t. TookFront held total faults t first.sink old.sink) (sym b.1) (whole_front held total faults first.sink old.sink (text_at table output items) b.0 all.holds);
        counts = all.counts;
      }
