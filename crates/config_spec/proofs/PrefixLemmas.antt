-- Prefixes, addresses and domains that texts stand for.
use Rattle.std.proofs.Common.{◌≡◌, ◌≤◌, ◌<◌, ◌-◌, ◌*◌, ◌+◌, ℕ, Bool, true, false, ◌&&◌, nat_le, nat_lt, List, [], ◌∷◌, map, length, Option, Some, None, refl, ap, suc, arith, inl, inr, if◌then◌else◌}
use Rattle.std.specs.Prelude.{option_and_then, option_map, is_some}
use Rattle.std.specs.Option.{option_or, unwrap_or}
use Rattle.std.specs.List.{AllByRecursion}
use Rattle.std.specs.Str.Parse.{digits_value}
use Rattle.std.specs.Net.Grammar.{IsColonHex}
use Rattle.std.specs.Net.Reader.{read_ipv4, read_ipv6}
use Rattle.std.specs.Net.Addr.{octets_of}
use Rattle.std.proofs.lemmas.Bool.{leb-true, eqb-true}
use Rattle.std.proofs.lemmas.List.Splits.{length-slice_split}
use Rattle.std.proofs.lemmas.List.{length-append, length-replicate}
use Rattle.std.proofs.NetLemmas.Ipv4.{read_ipv4_sound}
use Rattle.std.proofs.NetLemmas.Ipv6.{read_ipv6_sound}
use Rattle.config_spec.specs.declared.tables.Prefix.{Prefix}
use Rattle.config_spec.specs.declared.domains.DomainRange.{DomainRange}
use Rattle.config_spec.specs.Texts.{are_digits, number_text, whole, has_dot, address4, address6, address, masked, prefix_with, prefix_from, cut, prefix_cut, prefix}
use Rattle.config_spec.specs.Domains.{domain_text, ordered, single, cut_range, range_of, put_first, all_there, pieces, domains}
use Rattle.config_spec.specs.Fits.{is_alike, is_like}
use Rattle.config_spec.specs.Values.{no_prefix, ranges_in}
use Rattle.config_spec.specs.Form.{IsAddress, IsPrefix, AreRanges}
use Rattle.config_spec.proofs.AddressLemmas.{whole_from}

-- a prefix has as many octets as its address
pub masked_length : (bits : ℕ) (octets : List ℕ) → length (masked bits octets) ≡ length octets
masked_length bits [] = refl
masked_length bits (o ∷ octets) = ap suc (masked_length (bits - 8) octets)

four : (text octets : List ℕ) → address4 text ≡ Some octets → length octets ≡ 4
unfolding address4
four text octets h =
    let (front, spelled, dotted) = read_ipv4_sound text octets [] (whole_from (read_ipv4 text) octets h) in
    rw dotted.value refl

eight : (text segments : List ℕ) → IsColonHex text segments → length segments ≡ 8
eight text segments (inl groups) = groups.1
eight text segments (inr elided) =
    let room : length elided.head + length elided.tail < 8 = elided.room in
    rw (elided.value) (simp (length-append, length-replicate) (omega arith))

twice : (segments : List ℕ) → length (octets_of segments) ≡ 2 * length segments
twice [] = refl
twice (s ∷ segments) = let more = twice segments in omega arith

sixteen : (text octets : List ℕ) → address6 text ≡ Some octets → length octets ≡ 16
unfolding address6
sixteen text octets h = dotted (has_dot text) h
  where
    segments_from : (o : Option (List ℕ)) → whole (read_ipv6 text) ≡ o → option_map octets_of o ≡ Some octets → length octets ≡ 16
    segments_from None is e = absurd (cc)
    segments_from (Some segments) is e =
        let (front, spelled, hex) = read_ipv6_sound text segments [] (whole_from (read_ipv6 text) segments is) in
        let same : octets_of segments ≡ octets = cc in
        let size = eight front segments hex in
        let double = twice segments in
        rw (← same) (omega arith)

    dotted : (b : Bool) → (if b then None else option_map octets_of (whole (read_ipv6 text))) ≡ Some octets → length octets ≡ 16
    dotted true e = absurd (cc)
    dotted false e = segments_from (whole (read_ipv6 text)) refl e

address_kept : (text octets : List ℕ) → address text ≡ Some octets → IsAddress octets
unfolding address
address_kept text octets h = either (address4 text) refl h
  where
    either : (o : Option (List ℕ)) → address4 text ≡ o → option_or o (address6 text) ≡ Some octets → IsAddress octets
    either None is e = inr (sixteen text octets e)
    either (Some found) is e = let same : found ≡ octets = cc in inl (four text octets (rw (← same) is))

number_most : (most n : ℕ) (text : List ℕ) → number_text most text ≡ Some n → n ≤ most
unfolding number_text
number_most most n text e = test (nat_lt 0 (length text) && are_digits text) (nat_le (digits_value 10 text) most) refl e
  where
    test : (a b : Bool) → nat_le (digits_value 10 text) most ≡ b → (if a && b then Some (digits_value 10 text) else None) ≡ Some n → n ≤ most
    test true true is e = let same : digits_value 10 text ≡ n = cc in rw (← same) (leb-true (digits_value 10 text) most is)
    test true false is e = absurd (cc)
    test false b is e = absurd (cc)

pub prefix_kept : (text : List ℕ) (found : Prefix) → prefix text ≡ Some found → IsPrefix found
unfolding prefix
prefix_kept text found h = parts (cut 47 text) h
  where
    made : (octets bits : List ℕ) (o : Option ℕ) → IsAddress octets → number_text (8 * length octets) bits ≡ o → option_map (prefix_with octets) o ≡ Some found → IsPrefix found
    made octets bits None is number e = absurd (cc)
    made octets bits (Some n) is number e =
        let same : prefix_with octets n ≡ found = cc in
        rw (← same) (record { octets = rw (masked_length n octets) is; bits = rw (masked_length n octets) (number_most (8 * length octets) n bits number) })

    at : (front bits : List ℕ) (o : Option (List ℕ)) → address front ≡ o → option_and_then (prefix_from bits) o ≡ Some found → IsPrefix found
    at front bits None is e = absurd (cc)
    at front bits (Some octets) is e = made octets bits (number_text (8 * length octets) bits) (address_kept front octets is) refl e

    parts : (o : Option (List ℕ × List ℕ)) → prefix_cut o ≡ Some found → IsPrefix found
    parts None e = absurd (cc)
    parts (Some p) e = at p.0 p.1 (address p.0) refl e

-- a prefix text that is one
pub prefix_there : (text : List ℕ) → is_some (prefix text) ≡ true → IsPrefix (unwrap_or (prefix text) no_prefix)
prefix_there text e = at (prefix text) refl e
  where
    at : (o : Option Prefix) → prefix text ≡ o → is_some o ≡ true → IsPrefix (unwrap_or o no_prefix)
    at None is e = absurd (cc)
    at (Some found) is e = prefix_kept text found is

pub like_kept : (from to : List ℕ) → is_like from to ≡ true → length (unwrap_or (address to) []) ≡ length (unwrap_or (prefix from) no_prefix).octets
like_kept from to e = at (prefix from) (address to) e
  where
    at : (p : Option Prefix) (a : Option (List ℕ)) → is_alike p a ≡ true → length (unwrap_or a []) ≡ length (unwrap_or p no_prefix).octets
    at None a e = absurd (cc)
    at (Some p) None e = absurd (cc)
    at (Some p) (Some a) e = let same = eqb-true (length p.octets) (length a) e in cc

ordered_kept : (low high : Option ℕ) (range : DomainRange) → ordered low high ≡ Some range → range.low ≤ range.high
ordered_kept None high range e = absurd (cc)
ordered_kept (Some low) None range e = absurd (cc)
ordered_kept (Some low) (Some high) range e = test (nat_le low high) refl e
  where
    test : (b : Bool) → nat_le low high ≡ b → (if b then Some (record { low = low; high = high }) else None) ≡ Some range → range.low ≤ range.high
    test true is e = let a : low ≡ range.low = cc in let b : high ≡ range.high = cc in let c = leb-true low high is in omega arith
    test false is e = absurd (cc)

single_kept : (o : Option ℕ) (range : DomainRange) → single o ≡ Some range → range.low ≤ range.high
single_kept None range e = absurd (cc)
single_kept (Some domain) range e = let a : domain ≡ range.low = cc in let b : domain ≡ range.high = cc in omega arith

range_kept : (text : List ℕ) (range : DomainRange) → range_of text ≡ Some range → range.low ≤ range.high
unfolding range_of
range_kept text range e = at (cut 45 text) e
  where
    at : (o : Option (List ℕ × List ℕ)) → cut_range text o ≡ Some range → range.low ≤ range.high
    at None e = single_kept (domain_text text) range e
    at (Some parts) e = ordered_kept (domain_text parts.0) (domain_text parts.1) range e

-- ranges of texts: as many as texts, and each in its order
abbrev Kept : List (List ℕ) → List DomainRange → Type 0
Kept texts ranges = (length ranges ≡ length texts) × AllByRecursion (λ range. range.low ≤ range.high) ranges

there_kept : (texts : List (List ℕ)) (ranges : List DomainRange) → all_there (map range_of texts) ≡ Some ranges → Kept texts ranges
there_kept [] ranges e = let same : [] ≡ ranges = cc in rw (← same) (refl, tt)
there_kept (text ∷ texts) ranges e = at (range_of text) refl e (there_kept texts)
  where
    put : (range : DomainRange) (o : Option (List DomainRange)) → range.low ≤ range.high → put_first range o ≡ Some ranges → ((more : List DomainRange) → o ≡ Some more → Kept texts more) → Kept (text ∷ texts) ranges
    put range None good e kept = absurd (cc)
    put range (Some more) good e kept = let same : range ∷ more ≡ ranges = cc in rw (← same) (ap suc (kept more refl).0, (good, (kept more refl).1))

    at : (o : Option DomainRange) → range_of text ≡ o → all_there (o ∷ map range_of texts) ≡ Some ranges → ((more : List DomainRange) → all_there (map range_of texts) ≡ Some more → Kept texts more) → Kept (text ∷ texts) ranges
    at None is e kept = absurd (cc)
    at (Some range) is e kept = put range (all_there (map range_of texts)) (range_kept text range is) e kept

pub domains_there : (text : List ℕ) → is_some (domains text) ≡ true → AreRanges (ranges_in text)
unfolding domains
domains_there text e = few (nat_le (length (pieces text)) 64) refl e
  where
    at : (o : Option (List DomainRange)) → length (pieces text) ≤ 64 → all_there (map range_of (pieces text)) ≡ o → is_some o ≡ true → AreRanges (unwrap_or o [])
    at None small is e = absurd (cc)
    at (Some ranges) small is e =
        let kept = there_kept (pieces text) ranges is in
        let least : 1 ≤ length (pieces text) = rw length-slice_split (omega arith) in
        record { some = (rw (kept.0) least, rw (kept.0) small); ordered = kept.1 }

    few : (b : Bool) → nat_le (length (pieces text)) 64 ≡ b → is_some (if b then all_there (map range_of (pieces text)) else None) ≡ true
        → AreRanges (unwrap_or (if b then all_there (map range_of (pieces text)) else None) [])
    few true is e = at (all_there (map range_of (pieces text))) (leb-true (length (pieces text)) 64 is) refl e
    few false is e = absurd (cc)
