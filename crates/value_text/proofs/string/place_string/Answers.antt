use Rattle.std.proofs.Common.{◌≡◌, List, ℕ, true, ◌++◌, ◌∙◌, ap, sym, take}
use Rattle.std.specs.Prelude.{unwrap_or}
use Rattle.std.specs.Str.{IsAscii, is_utf8}
use Rattle.std.proofs.lemmas.Str.{is_utf8-from_IsUtf8, IsUtf8-from_ascii}
use Rattle.text_spec.specs.Value.{before_end_zeros, escaped, octet_text, quoted, string_text, text_where}
use Rattle.value_text.proofs.string.place_string.Goals as goal

-- a plain text is UTF-8, and is shown as it is
plain_text : (value shown : List ℕ) → shown ≡ before_end_zeros value → IsAscii shown → escaped shown ≡ shown → quoted shown ≡ unwrap_or (string_text value) (octet_text value)
plain_text value shown is ascii same =
    let utf8 : is_utf8 (before_end_zeros value) ≡ true = ap is_utf8 (sym is) ∙ is_utf8-from_IsUtf8 shown (IsUtf8-from_ascii shown ascii) in
    sym (ap (λ b. unwrap_or (text_where b (quoted (escaped (before_end_zeros value)))) (octet_text value)) utf8 ∙ ap (λ l. quoted (escaped l)) (sym is) ∙ ap quoted same)

pub returns-then-is_plain-clause-grown : goal.returns-then-is_plain-clause-grown
returns-then-is_plain-clause-grown c =
    let plain = c.is_plain.ensures c.if-is_plain.true in
    c.place_plain.ensures.grown ∙ ap (λ l. take c.args.at c.args.text.now ++ l) (plain_text c.args.value.now c.before_end_zeros-shown.result.now c.before_end_zeros-shown.ensures.is plain.0 plain.1)
