use Rattle.std.proofs.Common.{◌≡◌, ◌+◌, ◌-◌, ◌++◌, ◌∷◌, [], length, vec_items, vec_len, sym, ap, ◌∙◌, arith, rules}
use Rattle.std.proofs.lemmas.List.{length_push}
use Rattle.unique.proofs.Fronts.{heads_cut, links_cut, links_last}
use Rattle.unique.proofs.tables.UniqueTable.pop.Goals as goal

pub invariant_of-self : goal.invariant_of-self
invariant_of-self c =
    let t = c.self.inside in
    let v = c.self.invariant in
    let d = c.in-Some.diamond in
    let ds = vec_items c.pop.new.self in
    let is : vec_items t.diamonds ≡ ds ++ (d ∷ []) = c.in-Some.ensures.items in
    let long : vec_len t.diamonds ≡ length ds + 1 = t.diamonds.ok.0 ∙ ap length is ∙ length_push ds d in
    let last : vec_len t.links - 1 ≡ length ds = omega (arith, long) in
    let were = rw is at v.chained in
    record {
      few = omega (arith, long);
      room = omega arith;
      spare = omega arith;
      wide = c.unchain.ensures.wide;
      level = search rules;
      begun = λ b i. rw (c.unchain.ensures.heads, last, were, links_last ds d) (heads_cut (vec_items t.heads) ds d (sym t.heads.ok.0 ∙ v.wide) (rw is at v.begun) b i);
      chained = rw (c.unchain.ensures.links, last, were) (links_cut ds d);
    }
