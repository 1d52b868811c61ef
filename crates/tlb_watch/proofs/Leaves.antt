-- Whether two leaves are the same, as the code compares them.
use Rattle.std.proofs.Common.{◌≡◌, Bool, true, false, refl, ap}
use Rattle.std.specs.Prelude.{◌&&◌}
use Rattle.std.specs.Bool.{Decides}
use Rattle.std.specs.Cmp.{booleans_Decides, unsigned_Decides}
use Rattle.sv39.specs.declared.page.Leaf.{Leaf}
use Rattle.sv39.specs.declared.page.Level.{Level}
use Rattle.sv39.specs.declared.page.Level.TheVariants.{Kilo, Mega, Giga, Tera}
use Rattle.sv39.specs.contracts.page.LeafPartialEq.TheImpl as derived
use Rattle.sv39.specs.contracts.page.LevelPartialEq.TheImpl as levels

both-decide : (p q : Bool) (P Q : Type 0) → Decides p P → Decides q Q → Decides (p && q) (P × Q)
both-decide true q P Q left right = ((λ e. (left.0 refl, right.0 e)), (λ both. right.1 both.1))
both-decide false q P Q left right = ((λ e. absurd cc), (λ both. let e = left.1 both.0 in cc))

levels-decide : (x y : Level) → Decides (levels.ghosts.eq x y) (x ≡ y)
levels-decide Kilo Kilo = ((λ e. refl), (λ e. refl))
levels-decide Mega Mega = ((λ e. refl), (λ e. refl))
levels-decide Giga Giga = ((λ e. refl), (λ e. refl))
levels-decide Tera Tera = ((λ e. refl), (λ e. refl))
levels-decide x y = ((λ e. absurd cc), (λ e. absurd cc))

pub leaves-decide : (a b : Leaf) → Decides (derived.ghosts.eq a b) (a ≡ b)
leaves-decide a b =
    let fields = both-decide _ _ _ _ (unsigned_Decides a.page b.page)
    (both-decide _ _ _ _ (unsigned_Decides a.pa b.pa)
    (both-decide _ _ _ _ (levels-decide a.level b.level)
    (both-decide _ _ _ _ (booleans_Decides a.global b.global)
    (both-decide _ _ _ _ (booleans_Decides a.r b.r)
    (both-decide _ _ _ _ (booleans_Decides a.w b.w)
    (both-decide _ _ _ _ (booleans_Decides a.x b.x) (booleans_Decides a.d b.d))))))) in (
      λ e.
          let same = fields.0 e in
          (λ i. record {
            page = same.0 i;
            pa = same.1.0 i;
            level = same.1.1.0 i;
            global = same.1.1.1.0 i;
            r = same.1.1.1.1.0 i;
            w = same.1.1.1.1.1.0 i;
            x = same.1.1.1.1.1.1.0 i;
            d = same.1.1.1.1.1.1.1 i;
          }),
      λ same.
          fields.1 (
            ap (λ (l : Leaf). l.page) same,
            (
              ap (λ (l : Leaf). l.pa) same,
              (
                ap (λ (l : Leaf). l.level) same,
                (
                  ap (λ (l : Leaf). l.global) same,
                  (ap (λ (l : Leaf). l.r) same, (ap (λ (l : Leaf). l.w) same, (ap (λ (l : Leaf). l.x) same, ap (λ (l : Leaf). l.d) same))),
                ),
              ),
            ),
          ),
    )
