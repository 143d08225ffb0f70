use Rattle.std.proofs.Common.{rules}
use Rattle.std.specs.Prelude.{nat_le}
use Rattle.std.proofs.lemmas.Bool.Decides.{nat_tests}
use Rattle.example_theorems.proofs.watcher.look_twice.Goals as goal

pub returns : goal.returns
returns g c =
    let v = c.in_ok-first.first in
    let w = c.in_ok-second.second in
    let before = c.get_as.result.polled.seen.calls in
    let mid = c.in_ok-first.once.calls in
    let later = c.get_as-2.result.polled.seen.calls in
    let now = c.in_ok-second.twice.calls in
    let level = c.what_is_got_never_goes_back.ensures nat_le before mid later now v w
    (λ a. search (rules, nat_tests)) (λ a b c low high. search (rules, nat_tests, low, high)) c.requires.may c.lawful.ensures.lawful
    (c.an_exact_get_is_linearized.ensures (λ a b is. is) before mid v (search rules)) (search rules)
    (c.an_exact_get_is_linearized.ensures (λ a b is. is) later now w (search rules)) in
    record { rises = search (rules, nat_tests, level) }
