use Rattle.std.proofs.Common.{◌≡◌, ◌<◌, length, vec_items, sym, ap, ◌∙◌, arith}
use Rattle.std.proofs.lemmas.Bool.{leb-false}
use Rattle.std.proofs.lemmas.List.{length_push}
use Rattle.unique.specs.Index.{bucket_of}
use Rattle.unique.proofs.Fronts.{bucket_less, heads_push, links_push}
use Rattle.unique.proofs.tables.UniqueTable.push.Goals as goal

pub invariant_of-self : goal.invariant_of-self
invariant_of-self c =
    let t = c.self.inside in
    let v = c.self.invariant in
    let d = c.args.diamond in
    let ds = vec_items t.diamonds in
    let is = c.push_reserved.ensures.items in
    let k : c.len-k.result ≡ length ds = c.len-k.ensures ∙ t.diamonds.ok.0 in
    let less : c.len-k.result < 1024 = leb-false 1024 c.len-k.result (sym c.if-is_full.ensures) in
    record {
      few = omega arith;
      room = omega arith;
      spare = omega arith;
      wide = c.chain.ensures.wide;
      level = omega (arith, c.chain.new.links.ok.0, ap length c.chain.ensures.links, length_push);
      begun = λ b i. rw (c.chain.ensures.heads, is, k) (heads_push (vec_items t.heads) ds d (sym t.heads.ok.0 ∙ v.wide) v.begun b i);
      chained = rw (c.chain.ensures.links, is, links_push ds d, v.chained, v.begun (bucket_of d) (bucket_less d));
    }
