use Rattle.std.proofs.Common.{◌≡◌, ◌+◌, ◌*◌, get_or, ap, sym, arith}
use Rattle.std.specs.Net.Addr.{segments_of}
use Rattle.std.proofs.NetLemmas.Arrays.{sixteen_items}
use Rattle.value_text.proofs.groups.groups_of.Goals as goal

pub returns : goal.returns
returns c =
    let v = c.args.value.now in
    let e0 : c.be16.result ≡ get_or v 0 0 * 256 + get_or v 1 0 = omega (arith, c.be16.ensures) in
    let e1 : c.be16-2.result ≡ get_or v 2 0 * 256 + get_or v 3 0 = omega (arith, c.be16-2.ensures) in
    let e2 : c.be16-3.result ≡ get_or v 4 0 * 256 + get_or v 5 0 = omega (arith, c.be16-3.ensures) in
    let e3 : c.be16-4.result ≡ get_or v 6 0 * 256 + get_or v 7 0 = omega (arith, c.be16-4.ensures) in
    let e4 : c.be16-5.result ≡ get_or v 8 0 * 256 + get_or v 9 0 = omega (arith, c.be16-5.ensures) in
    let e5 : c.be16-6.result ≡ get_or v 10 0 * 256 + get_or v 11 0 = omega (arith, c.be16-6.ensures) in
    let e6 : c.be16-7.result ≡ get_or v 12 0 * 256 + get_or v 13 0 = omega (arith, c.be16-7.ensures) in
    let e7 : c.be16-8.result ≡ get_or v 14 0 * 256 + get_or v 15 0 = omega (arith, c.be16-8.ensures) in
    rw (e0, e1, e2, e3, e4, e5, e6, e7) (sym (ap segments_of (sixteen_items v c.requires)))
