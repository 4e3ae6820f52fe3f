-- What the sink of an output of files holds is read again.
use Rattle.std.proofs.Common.{◌≡◌, ℕ, ◌+◌, ◌<◌, ◌≤◌, Bool, true, false, List, [], ◌∷◌, Option, Some, None, refl, ap, sym, subst, ◌∙◌, arith}
use Rattle.std.specs.Prelude.{nat_lt, slice_get}
use Rattle.std.specs.List.{AllByRecursion}
use Rattle.std.proofs.lemmas.Bool.{ltb-true, ltb-false}
use Rattle.col_base.specs.declared.base.Transport.TheVariants.{File}
use Rattle.wire_spec.specs.Stream.{IsCut}
use Rattle.arrival_spec.specs.declared.event.Scripted.{Scripted}
use Rattle.arrival_spec.specs.Octets.{ArrivesInOctets, GivesOctets}
use Rattle.arrival_spec.specs.OneStream.{one_session}
use Rattle.arrival_spec.proofs.EachLemmas.{all_octets}
use Rattle.text_spec.specs.declared.element.Element.{Element}
use Rattle.config_spec.specs.declared.conf.Conf.{Conf}
use Rattle.config_spec.specs.declared.conf.OutputConf.{OutputConf}
use Rattle.config_spec.specs.declared.conf.OutputKind.{OutputKind}
use Rattle.config_spec.specs.declared.conf.OutputKind.TheVariants.{Ipfix}
use Rattle.run_spec.specs.Judge.{Inputs}
use Rattle.run_spec.specs.Merge.{merged}
use Rattle.run_spec.specs.Read.{AreReadAs, ReadArrival}
use Rattle.run_spec.specs.Work.{Item}
use Rattle.file_spec.specs.Again.{AreSame}
use Rattle.file_spec.specs.File.{file_needs, file_octets}
use Rattle.file_spec.specs.Fit.{AreFit, IsFit}
use Rattle.file_spec.specs.Limit.{items_within}
use Rattle.file_spec.proofs.AgainLemmas.{read_again}
use Rattle.file_spec.proofs.ArriveLemmas.{merged_in_octets}
use Rattle.file_spec.proofs.FitLemmas.{decoded_fit}
use Rattle.result_spec.specs.Rows.{HaveOctetRows}
use Rattle.result_spec.specs.Result.{ComeTo, ExceedsFor, Exceeds, arrivals_from, held_for, inputs_of, items_held, text_by, text_for}
use Rattle.result_spec.proofs.ThroughLemmas.{through_fit, within_fit}
use Rattle.call_spec.specs.declared.end.OutputFault.TheVariants.{Limit}
use Rattle.call_spec.specs.Again.{IsReadAgain}
use Rattle.call_spec.specs.Came.{RunCame}
use Rattle.call_spec.specs.Ends.{EndsOutput, HoldsBy}
use Rattle.call_spec.specs.Leaves.{given_of, stage_wants, HoldsResult}

all_arrive : (inputs : Inputs) (input : ℕ) (given : List (List Scripted)) → AllByRecursion (AllByRecursion GivesOctets) given → AllByRecursion (AllByRecursion ArrivesInOctets) (arrivals_from inputs input given)
all_arrive inputs input [] p = tt
all_arrive inputs input (events ∷ given) p = (all_octets (inputs input) input events p.0, all_arrive inputs (input + 1) given p.1)

-- what comes to an output fits
come_fit : (conf : Conf) (given : List (List Scripted)) (order : List ℕ) (j : ℕ) (items : List Item) → HaveOctetRows conf.stages → AllByRecursion (AllByRecursion GivesOctets) given
    → ComeTo conf given order j items → AllByRecursion IsFit items
come_fit conf given order j items rows octets come =
    let inputs = inputs_of conf in
    let list = merged order (arrivals_from inputs 0 given) in
    let arrive = merged_in_octets order (arrivals_from inputs 0 given) (all_arrive inputs 0 given octets) in
    subst (AllByRecursion IsFit) (sym come.2) (through_fit conf j come.0 rows (decoded_fit inputs list come.0 arrive come.1))

-- the file of items that fit is read again
file_read : (items : List Item) (text : List ℕ) → text ≡ file_octets items → AreFit items → (inputs : Inputs) (input : ℕ) → (inputs input).transport ≡ File
    → (messages : List (List ℕ)) (rest : List ℕ) (read : List ReadArrival) → IsCut text messages rest → AreReadAs (one_session input File messages) read → AreSame inputs read items
file_read items text is fit inputs input file messages rest read cut reads = read_again inputs input file items fit messages rest (subst (λ (o : List ℕ). IsCut o messages rest) is cut) read reads

text_of_file : (rows : List Element) (o : Option OutputConf) (output : OutputConf) (last : ℕ) (items : List Item) → o ≡ Some output → output.kind ≡ Ipfix last → text_for rows o items ≡ file_octets items
text_of_file rows o output last items at kind = ap (λ (x : Option OutputConf). text_for rows x items) at ∙ ap (λ (k : OutputKind). text_by rows k items) kind

held_of_file : (o : Option OutputConf) (output : OutputConf) (last : ℕ) (items : List Item) → o ≡ Some output → output.kind ≡ Ipfix last → held_for o items ≡ items_within last items
held_of_file o output last items at kind = ap (λ (x : Option OutputConf). held_for x items) at ∙ ap (λ (k : OutputKind). items_held k items) kind

exceeds_of_file : (o : Option OutputConf) (output : OutputConf) (last : ℕ) (items : List Item) → o ≡ Some output → output.kind ≡ Ipfix last → ExceedsFor o items ≡ (last < file_needs items)
exceeds_of_file o output last items at kind = ap (λ (x : Option OutputConf). ExceedsFor x items) at ∙ ap (λ (k : OutputKind). Exceeds k items) kind

not_more : (last n : ℕ) (b : Bool) → nat_lt last n ≡ b → (last < n → ⊥) → n ≤ last
not_more last n true e never = absurd (never (ltb-true last n e))
not_more last n false e never = ltb-false last n e

some_same : (a b : List ℕ) → Some a ≡ Some b → a ≡ b
some_same a b e = cc e

pub whole_read : (conf : Conf) (rows : List Element) (run : RunCame) (j last : ℕ) (output : OutputConf) (old text : List ℕ)
    → slice_get conf.outputs j ≡ Some output → output.kind ≡ Ipfix last → last ≤ 65535 → HaveOctetRows conf.stages → AllByRecursion (AllByRecursion GivesOctets) (given_of run)
    → stage_wants run ≡ false → HoldsResult conf rows run j None (Some old) (Some text) → IsReadAgain conf run j (λ items. items) text
whole_read conf rows run j last output old text at kind most octet_rows octets uncut held =
    let o = slice_get conf.outputs j in
    let items = held.items in
    let holds : Some text ≡ Some (text_for rows o items) = subst (λ (b : Bool). HoldsBy b None (Some old) (Some text) (text_for rows o items) (text_for rows o (held_for o items))) uncut held.holds in
    let ends : ExceedsFor o items → ⊥ = subst (λ (b : Bool). EndsOutput b None (ExceedsFor o items)) uncut held.ends in
    let within : last < file_needs items → ⊥ = subst (λ (X : Type 0). X → ⊥) (exceeds_of_file o output last items at kind) ends in
    let needs = not_more last (file_needs items) (nat_lt last (file_needs items)) refl within in
    let fit = come_fit conf (given_of run) run.order j items octet_rows octets held.come in
    record {
      items = items;
      come = held.come;
      same = λ domains. file_read items text (some_same text (text_for rows o items) holds ∙ text_of_file rows o output last items at kind) (record { each = fit; domains = domains; numbers = omega arith });
    }

pub limited_read : (conf : Conf) (rows : List Element) (run : RunCame) (j last : ℕ) (output : OutputConf) (old text : List ℕ)
    → slice_get conf.outputs j ≡ Some output → output.kind ≡ Ipfix last → last ≤ 65535 → HaveOctetRows conf.stages → AllByRecursion (AllByRecursion GivesOctets) (given_of run)
    → HoldsResult conf rows run j (Some Limit) (Some old) (Some text) → IsReadAgain conf run j (items_within last) text
limited_read conf rows run j last output old text at kind most octet_rows octets held =
    let o = slice_get conf.outputs j in
    let items = held.items in
    let fit = come_fit conf (given_of run) run.order j items octet_rows octets held.come in
    let is : text ≡ file_octets (items_within last items) =
    some_same text (text_for rows o (held_for o items)) held.holds ∙ (ap (text_for rows o) (held_of_file o output last items at kind) ∙ text_of_file rows o output last (items_within last items) at kind) in
    record {
      items = items;
      come = held.come;
      same = λ domains. file_read (items_within last items) text is (within_fit last items most fit domains);
    }
