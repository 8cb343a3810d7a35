use Rattle.std.proofs.Common.{ℕ, List, ◌≡◌, ◌+◌, ◌-◌, ◌++◌, length, take, drop, replicate, ap, ◌∙◌, arith, length-drop, length-take-le}
use Rattle.std.proofs.lemmas.List.{drop-replicate}
use Rattle.request.specs.Packing.{padded}
use Rattle.reading.proofs.route_in.Goals as goal

-- a list written over the front of an array of zeros is padded
copied : (route part : List ℕ) (hops : ℕ) → part ≡ route → length route ≡ hops → part ++ drop hops (replicate 32 0) ≡ padded 32 0 route
unfolding padded
copied route part hops same long = rw (same, drop-replicate {X = ℕ} hops 32 0, long)

pub returns : goal.returns
returns c =
    let s = c.args.file.now in
    let taken = length-take-le c.args.hops (drop c.args.from s) (omega (arith, length-drop c.args.from s)) in
    let same : c.args.from + c.args.hops - c.args.from ≡ c.args.hops = omega arith in
    copied (take c.args.hops (drop c.args.from s)) c.copy_from_slice.new.self c.args.hops
    (c.copy_from_slice.ensures.after ∙ ap (λ (n : ℕ). take n (drop c.args.from s)) same) taken
