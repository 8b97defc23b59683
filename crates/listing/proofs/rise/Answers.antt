-- What is shared does not decide the order: the first bytes that differ do, or else the lengths.
use Rattle.std.proofs.Common.{◌≡◌, ◌≢◌, ℕ, drop, ◌∙◌, rules, tests}
use Rattle.std.proofs.lemmas.Iterator.{IsFirst-from_position, YieldsList-from_slice, YieldsList-from_zip}
use Rattle.std.proofs.lemmas.List.{take_rest}
use Rattle.std.specs.Slice.Iter.{iter_rest}
use Rattle.std.specs.Iterator.Adapters.{zip_first, zip_second}
use Rattle.listing.proofs.Partings.{parted, ended}
use Rattle.listing.proofs.rise.Goals as goal

pub returns-in-Some : goal.returns-in-Some
returns-in-Some c =
    let p = c.args.p.now in
    let q = c.args.q.now in
    let k = c.shared-k.result in
    let a : iter_rest (zip_first c.zip.result) ≡ drop k p = rw (← take_rest p k) (search rules) in
    let b : iter_rest (zip_second c.zip.result) ≡ drop k q = rw (← take_rest q k) (search rules) in
    let pairs = YieldsList-from_zip {s = c.zip.result} (YieldsList-from_slice _ a) (YieldsList-from_slice _ b) in
    let first =
    IsFirst-from_position c.position.new.self _ c.position.result (λ (x : ℕ × ℕ). x.0 ≢ x.1) (λ (x : ℕ × ℕ). x.0 ≡ x.1)
    c.position.ensures.ran pairs (λ x q k. search (rules, tests)) (λ x q k. search (rules, tests)) in
    let f = rw c.in-Some.is at first in
    c.then_some.ensures ∙ parted p q k c.shared-k.ensures c.in-Some.i f.0 f.2 f.1

pub returns-in-None : goal.returns-in-None
returns-in-None c =
    let p = c.args.p.now in
    let q = c.args.q.now in
    let k = c.shared-k.result in
    let a : iter_rest (zip_first c.zip.result) ≡ drop k p = rw (← take_rest p k) (search rules) in
    let b : iter_rest (zip_second c.zip.result) ≡ drop k q = rw (← take_rest q k) (search rules) in
    let pairs = YieldsList-from_zip {s = c.zip.result} (YieldsList-from_slice _ a) (YieldsList-from_slice _ b) in
    let first =
    IsFirst-from_position c.position.new.self _ c.position.result (λ (x : ℕ × ℕ). x.0 ≢ x.1) (λ (x : ℕ × ℕ). x.0 ≡ x.1)
    c.position.ensures.ran pairs (λ x q k. search (rules, tests)) (λ x q k. search (rules, tests)) in
    let f = rw c.in-None.is at first in
    c.then_some-in-None.ensures ∙ ended p q k c.shared-k.ensures f
