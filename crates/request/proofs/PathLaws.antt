-- A sound route is a path: how many nodes it meets, and that its links, in whatever sequence they are told, say which route it is.
use Rattle.std.specs.Prelude.{ℕ, ◌+◌, ◌≤◌, Bool, true, false, not, ◌||◌, List, [], ◌∷◌, map, ◌≢◌, ◌≡◌, refl, length, ltb, eqb}
use Rattle.std.proofs.Math.Bool.{or-true}
use Rattle.std.proofs.Common.{subst, sym, ◌∙◌, ap, eqb-true, eq-eqb, ne_eqb}
use Rattle.std.proofs.lemmas.Bool.{not-true}
use Rattle.request.specs.declared.Link.{Link}
use Rattle.request.specs.View.{link_at}
use Rattle.request.specs.Check.{has, listed, once, unbroken, nodes_of, sound_route}
use Rattle.request.proofs.RouteLaws.{nodes_counted, sound_parts, parts_sound}
use Rattle.theory.proofs.TestLaws.{by_test, not_both, and_first, and_second, or_neither}

-- a sound route of h links has h + 1 different nodes
pub nodes_of_sound : (links : List Link) (route : List ℕ) → 1 ≤ length route → sound_route links route ≡ true →
    (length (nodes_of (link_at links) route) ≡ length route + 1) × (once (nodes_of (link_at links) route) ≡ true)
nodes_of_sound links route some sound = (nodes_counted (link_at links) route some, (sound_parts links route sound).3)

-- a route without its first link is unbroken
unbroken_rest : (links : List Link) (a : ℕ) (route : List ℕ) → unbroken links (a ∷ route) ≡ true → unbroken links route ≡ true
unfolding unbroken
unbroken_rest links a [] all = refl
unbroken_rest links a (b ∷ route) all = and_second (eqb (link_at links a).to (link_at links b).from) (unbroken links (b ∷ route)) all

-- and meets no node twice
nodes_rest : (links : List Link) (a : ℕ) (route : List ℕ) → unbroken links (a ∷ route) ≡ true →
    once (nodes_of (link_at links) (a ∷ route)) ≡ true → once (nodes_of (link_at links) route) ≡ true
unfolding unbroken once nodes_of
nodes_rest links a [] joined all = refl
nodes_rest links a (b ∷ route) joined all =
    let to = (link_at links a).to in
    let rest = map (λ (c : ℕ). (link_at links c).to) (b ∷ route) in
    let meet : to ≡ (link_at links b).from = eqb-true to (link_at links b).from (and_first (eqb to (link_at links b).from) (unbroken links (b ∷ route)) joined) in
    ap (λ (n : ℕ). once (n ∷ rest)) (sym meet) ∙
    and_second (not (has (link_at links a).from (to ∷ rest))) (once (to ∷ rest)) all

-- so it is sound
rest_sound : (links : List Link) (a : ℕ) (route : List ℕ) → sound_route links (a ∷ route) ≡ true → sound_route links route ≡ true
unfolding listed
rest_sound links a route sound =
    let parts = sound_parts links (a ∷ route) sound in
    parts_sound links route (and_second (ltb a (length links)) (listed (length links) route) parts.0)
    (unbroken_rest links a route parts.2) (nodes_rest links a route parts.2 parts.3)

-- the first link of a list stands in it
has_first : (a : ℕ) (route : List ℕ) → has a (a ∷ route) ≡ true
unfolding has
has_first a route = ap (λ (b : Bool). b || has a route) (eq-eqb a a refl)

-- a link that stands in a list leads to one of the nodes that the list leads to
has_led : (link : ℕ → Link) (c : ℕ) (route : List ℕ) → has c route ≡ true → has (link c).to (map (λ (b : ℕ). (link b).to) route) ≡ true
unfolding has
has_led link c [] there = there
has_led link c (b ∷ route) there =
    let led = map (λ (x : ℕ). (link x).to) route in
    by_test (eqb c b)
    (λ (t : eqb c b ≡ true). ap (λ (x : Bool). x || has (link c).to led) (eq-eqb (link c).to (link b).to (ap (λ (x : ℕ). (link x).to) (eqb-true c b t))))
    (λ (f : eqb c b ≡ false). rw (has_led link c route (rw f at there)) (or-true (eqb (link c).to (link b).to)))

-- no link of a sound route leads to where it begins
never_back : (links : List Link) (a : ℕ) (route : List ℕ) → sound_route links (a ∷ route) ≡ true →
    (c : ℕ) → has c (a ∷ route) ≡ true → (link_at links c).to ≢ (link_at links a).from
unfolding once nodes_of
never_back links a route sound c there same =
    let led = map (λ (b : ℕ). (link_at links b).to) (a ∷ route) in
    not_both {C = ⊥} (has (link_at links a).from led)
    (subst (λ (x : ℕ). has x led ≡ true) same (has_led (link_at links) c (a ∷ route) there))
    (not-true (has (link_at links a).from led) (and_first (not (has (link_at links a).from led)) (once led) (sound_parts links (a ∷ route) sound).3))

-- a link that begins where no link of an unbroken route leads to does not stand behind the first one
led_nowhere : (links : List Link) (b : ℕ) (route : List ℕ) → unbroken links (b ∷ route) ≡ true →
    (a : ℕ) → ((c : ℕ) → has c (b ∷ route) ≡ true → (link_at links c).to ≢ (link_at links a).from) → has a route ≡ false
unfolding unbroken has
led_nowhere links b [] joined a none = refl
led_nowhere links b (x ∷ route) joined a none =
    let meet : (link_at links b).to ≡ (link_at links x).from
    = eqb-true (link_at links b).to (link_at links x).from
    (and_first (eqb (link_at links b).to (link_at links x).from) (unbroken links (x ∷ route)) joined) in
    or_neither (eqb a x) (has a route)
    (ne_eqb a x (λ (e : a ≡ x). none b (has_first b (x ∷ route)) (meet ∙ ap (λ (y : ℕ). (link_at links y).from) (sym e))))
    (led_nowhere links x route (unbroken_rest links b (x ∷ route) joined) a
    (λ (c : ℕ) (there : has c (x ∷ route) ≡ true). none c (rw there (or-true (eqb c b)))))

-- sound routes with the same links begin with the same one
same_first : (links : List Link) (a b : ℕ) (r s : List ℕ) → sound_route links (a ∷ r) ≡ true → sound_route links (b ∷ s) ≡ true →
    ((x : ℕ) → has x (a ∷ r) ≡ has x (b ∷ s)) → a ≡ b
unfolding has
same_first links a b r s r-sound s-sound same =
    by_test (eqb a b)
    (λ (t : eqb a b ≡ true). eqb-true a b t)
    (λ (f : eqb a b ≡ false).
    let behind : has a s ≡ false
    = led_nowhere links b s (sound_parts links (b ∷ s) s-sound).2 a
    (λ (c : ℕ) (there : has c (b ∷ s) ≡ true). never_back links a r r-sound c (same c ∙ there)) in
    not_both (has a (b ∷ s)) (sym (same a) ∙ has_first a r) (or_neither (eqb a b) (has a s) f behind))

-- two lists with the same links, each once, that begin with the same one have the same links behind it
same_behind : (a : ℕ) (r s : List ℕ) → once (a ∷ r) ≡ true → once (a ∷ s) ≡ true →
    ((x : ℕ) → has x (a ∷ r) ≡ has x (a ∷ s)) → (x : ℕ) → has x r ≡ has x s
unfolding has once
same_behind a r s r-once s-once same x =
    by_test (eqb x a)
    (λ (t : eqb x a ≡ true).
    rw (eqb-true x a t)
    (not-true (has a r) (and_first (not (has a r)) (once r) r-once) ∙ sym (not-true (has a s) (and_first (not (has a s)) (once s) s-once))))
    (λ (f : eqb x a ≡ false). rw f at (same x))

-- two sound routes with the same links, in whatever sequence, are the same route, link for link
pub same_links_same_route : (links : List Link) (r s : List ℕ) → sound_route links r ≡ true → sound_route links s ≡ true →
    ((x : ℕ) → has x r ≡ has x s) → r ≡ s
unfolding has
same_links_same_route links [] [] r-sound s-sound same = refl
same_links_same_route links [] (b ∷ s) r-sound s-sound same = not_both false (same b ∙ has_first b s) refl
same_links_same_route links (a ∷ r) [] r-sound s-sound same = not_both false (sym (same a) ∙ has_first a r) refl
same_links_same_route links (a ∷ r) (b ∷ s) r-sound s-sound same =
    let first : b ≡ a = sym (same_first links a b r s r-sound s-sound same) in
    let alike : (x : ℕ) → has x (a ∷ r) ≡ has x (a ∷ s) = rw first at same in
    let there : sound_route links (a ∷ s) ≡ true = rw first at s-sound in
    rw first
    (ap (λ (l : List ℕ). a ∷ l)
    (same_links_same_route links r s (rest_sound links a r r-sound) (rest_sound links a s there)
    (same_behind a r s (sound_parts links (a ∷ r) r-sound).1 (sound_parts links (a ∷ s) there).1 alike)))
