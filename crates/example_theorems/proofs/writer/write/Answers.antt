use Rattle.std.proofs.Common.{rules, arith, ap, sym, append-nil, ◌∙◌, ◌≤◌, [], length, None}
use Rattle.std.proofs.lemmas.Bool.Decides.{nat_tests}
use Rattle.std.specs.List.{last_or}
use Rattle.std.specs.Prelude.{nat_le}
use Rattle.example_theorems.proofs.writer.write.Goals as goal

pub invariant_of-new : goal.invariant_of-new
invariant_of-new g c =
    let whole = c.seen.ensures.whole in
    record {
      counted = omega (arith, c.requires.counted, ap length whole, c.push.ensures.counted);
      last = ap (last_or None) whole ∙ c.push.ensures.last;
    }

-- what was got has no lower number, so its list is as long as the whole one
pub returns-clause-exact : goal.returns-clause-exact
returns-clause-exact g c =
    let found = c.in_ok-found.found in
    let put = c.in_ok-put.ensures.put in
    let it = put.1.0 in
    let calls = c.put.new.seen.calls in
    let rises = c.what_is_got_follows_what_was_put.ensures (λ a b. nat_le a.number b.number) c.args.seen.calls calls calls c.in_ok-found.now.calls put.0 it found
    (λ a. search (rules, nat_tests)) (λ a b d low high. search (rules, nat_tests, low, high)) c.requires.only c.lawful.ensures.lawful
    put.1.1.0 ([], append-nil calls) c.in_ok-found.ensures.got in
    let le : it.number ≤ found.number = search (rules, nat_tests, rises) in
    let whole = c.learn.ensures.same (omega (arith, c.requires.counted, put.1.1.1, le, found.counted, c.push.ensures.counted)) in
    grind (arith, sym found.last ∙ ap (last_or None) whole ∙ c.push.ensures.last)
