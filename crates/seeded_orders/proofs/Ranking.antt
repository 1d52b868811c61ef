-- Ranks, as they are drawn and looked through.
use Rattle.std.proofs.Common.{◌≡◌, ℕ, suc, ◌+◌, ◌-◌, ◌*◌, ◌/◌, ◌%◌, ◌^◌, ◌<◌, ◌≤◌, List, [], ◌∷◌, ◌++◌, sym, ap, ◌∙◌, append_assoc, append-nil, drop, get_or, length, arith}
use Rattle.std.specs.Prelude.{Option, Some}
use Rattle.std.proofs.Math.Seq.{drop-cons}
use Rattle.rand_pcg.specs.Lcg.{Lcg}
use Rattle.rand_pcg.specs.Pcg.{pcg64_dxsm}
use Rattle.guest_programs.specs.declared.steps.Step.{Step}
use Rattle.seeded_orders.specs.Ranks.{higher, highest, Ranking, ranking, ranking_within, ranks_from}

word-of : (word : ℕ) (w v : Lcg) → (word, v) ≡ pcg64_dxsm w → word ≡ (pcg64_dxsm w).0
word-of word w v drawn = ap (λ (pair : ℕ × Lcg). pair.0) drawn

left-of : (word : ℕ) (w v : Lcg) → (word, v) ≡ pcg64_dxsm w → v ≡ (pcg64_dxsm w).1
left-of word w v drawn = ap (λ (pair : ℕ × Lcg). pair.1) drawn

same-ranking : (r s : List ℕ) (a b c d : ℕ) → r ≡ s → a ≡ b → c ≡ d
    → (let x : Ranking = record { ranks = r; first = a; second = c } in x) ≡ (let y : Ranking = record { ranks = s; first = b; second = d } in y)
same-ranking r s a b c d ranks first second = cc

pub ranking-is : (harts word first second span : ℕ) (w v u t : Lcg) (ranks : List ℕ) → (word, v) ≡ pcg64_dxsm w → span ≡ 2 ^ (word % 12)
    → (first, u) ≡ pcg64_dxsm v → (second, t) ≡ pcg64_dxsm u → ranks ≡ ranks_from (4 * harts + 1) t
    → (let x : Ranking = record { ranks = ranks; first = first % span; second = second % span } in x) ≡ ranking harts w
ranking-is harts word first second span w v u t ranks drawn is one two are =
    let after : u ≡ (pcg64_dxsm v).1 = left-of first v u one in
    let last : t ≡ (pcg64_dxsm (pcg64_dxsm v).1).1 = left-of second u t two ∙ ap (λ (g : Lcg). (pcg64_dxsm g).1) after in
    let inner : (let x : Ranking = record { ranks = ranks; first = first % span; second = second % span } in x) ≡ ranking_within harts span v =
    same-ranking ranks (ranks_from (4 * harts + 1) (pcg64_dxsm (pcg64_dxsm v).1).1) (first % span) ((pcg64_dxsm v).0 % span) (second % span) ((pcg64_dxsm (pcg64_dxsm v).1).0 % span)
    (are ∙ ap (λ (g : Lcg). ranks_from (4 * harts + 1) g) last)
    (ap (λ (n : ℕ). n % span) (word-of first v u one))
    (ap (λ (n : ℕ). n % span) (word-of second u t two ∙ ap (λ (g : Lcg). (pcg64_dxsm g).0) after)) in
    inner ∙ ap (λ (n : ℕ). ranking_within harts n v) (is ∙ ap (λ (n : ℕ). 2 ^ (n % 12)) (word-of word w v drawn))
    ∙ ap (λ (g : Lcg). ranking_within harts (2 ^ ((pcg64_dxsm w).0 % 12)) g) (left-of word w v drawn)

pub drawn-next : (done : List ℕ) (many i word x : ℕ) (w v : Lcg) (whole : List ℕ) → i < many → (word, v) ≡ pcg64_dxsm w → x ≡ word / 2 + 2
    → done ++ ranks_from (many - i) w ≡ whole → (done ++ x ∷ []) ++ ranks_from (many - (i + 1)) v ≡ whole
unfolding ranks_from
drawn-next done many i word x w v whole below drawn is keeps =
    let more : many - i ≡ suc (many - (i + 1)) = omega arith in
    let here : x ≡ (pcg64_dxsm w).0 / 2 + 2 = is ∙ ap (λ (n : ℕ). n / 2 + 2) (word-of word w v drawn) in
    append_assoc done (x ∷ []) (ranks_from (many - (i + 1)) v)
    ∙ ap (λ (n : ℕ). done ++ (n ∷ ranks_from (many - (i + 1)) v)) here
    ∙ ap (λ (g : Lcg). done ++ (((pcg64_dxsm w).0 / 2 + 2) ∷ ranks_from (many - (i + 1)) g)) (left-of word w v drawn)
    ∙ ap (λ (n : ℕ). done ++ ranks_from n w) (sym more) ∙ keeps

pub drawn-whole : (done : List ℕ) (many i : ℕ) (w : Lcg) (whole : List ℕ) → many ≤ i → done ++ ranks_from (many - i) w ≡ whole → done ≡ whole
unfolding ranks_from
drawn-whole done many i w whole over keeps =
    let none : many - i ≡ 0 = omega arith in
    sym (append-nil done) ∙ ap (λ (n : ℕ). done ++ ranks_from n w) (sym none) ∙ keeps

pub highest-next : (ranks : List ℕ) (best whole : Option Step) (steps : List Step) (i : ℕ) (d step : Step) → i < length steps → step ≡ higher ranks best (get_or steps i d)
    → highest ranks best (drop i steps) ≡ whole → highest ranks (Some step) (drop (i + 1) steps) ≡ whole
unfolding highest
highest-next ranks best whole steps i d step below is keeps =
    let first : drop i steps ≡ get_or steps i d ∷ drop (suc i) steps = drop-cons steps i d below in
    let next : suc i ≡ i + 1 = omega arith in
    ap (λ (s : Step). highest ranks (Some s) (drop (i + 1) steps)) is
    ∙ ap (λ (n : ℕ). highest ranks (Some (higher ranks best (get_or steps i d))) (drop n steps)) (sym next)
    ∙ ap (λ (xs : List Step). highest ranks best xs) (sym first) ∙ keeps

pub highest-whole : (ranks : List ℕ) (best whole : Option Step) (steps : List Step) (i : ℕ) → drop i steps ≡ [] → highest ranks best (drop i steps) ≡ whole → best ≡ whole
unfolding highest
highest-whole ranks best whole steps i over keeps = ap (λ (xs : List Step). highest ranks best xs) (sym over) ∙ keeps
