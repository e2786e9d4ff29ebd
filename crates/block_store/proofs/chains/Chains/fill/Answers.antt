use Rattle.std.proofs.Common.{◌≡◌, ◌-◌, ◌*◌, ◌<◌, length, take, drop, sym, refl, ap, ◌∙◌, arith}
use Rattle.std.proofs.lemmas.List.{drop_all}
use Rattle.block_store.specs.Lent.{chain_of, content_of}
use Rattle.block_store.proofs.FileFacts.{part_more, whole_file}
use Rattle.block_store.proofs.chains.Chains.fill.Goals as goal

pub loop-i-init : goal.loop-i-init
loop-i-init c =
    let ws = c.args.words.now in
    let need = c.blocks_for-i.result in
    let e : length ws - 4 * need ≡ 0 = omega (arith, c.blocks_for-i.ensures) in
    record {
      others = λ j ne jl. (refl, refl);
      blocks = omega (arith, c.requires.empty, c.blocks_for-i.ensures);
      content = ap (λ n. take n (content_of c.args.self.now c.args.key)) e ∙ sym (drop_all (4 * need) ws (omega (arith, c.blocks_for-i.ensures)));
      room = omega (arith, c.requires.room, c.blocks_for-i.ensures);
      len = λ h. absurd (omega (arith, c.requires.empty));
      units = refl;
    }

pub loop-i-preserved : goal.loop-i-preserved
loop-i-preserved c =
    let ws = c.args.words.now in
    record {
      others = λ j ne jl.
          let a = c.shift.ensures.others j (λ e. omega arith) ne (omega arith) in
          let b = c.loop-i.invariant.others j ne jl in
          (a.0 ∙ b.0, a.1 ∙ b.1);
      blocks = omega (arith, c.shift.ensures.more, c.loop-i.invariant.blocks);
      content = ap (take _) c.shift.ensures.content ∙ part_more ws c.chunk.result (content_of c.loop-i.self c.args.key) (4 * (c.loop-i.i - 1)) (4 * c.loop-i.i) (omega arith) (omega arith) c.chunk.ensures c.loop-i.invariant.content;
      room = omega (arith, c.shift.ensures.less, c.loop-i.invariant.room);
      len = λ h. c.shift.ensures.len;
      units = c.shift.ensures.units ∙ c.loop-i.invariant.units;
    }

pub returns : goal.returns
returns c =
    let m = c.loop-i.self in
    let ws = c.args.words.now in
    let k = c.args.key in
    let z : c.loop-i.i ≡ 0 = omega arith in
    let some : 0 < (chain_of m k).blocks = omega (arith, c.loop-i.invariant.blocks) in
    let long = c.loop-i.invariant.len some in
    record {
      others = c.loop-i.invariant.others;
      full = λ h. (omega (arith, long, c.loop-i.invariant.blocks), omega (arith, long, c.requires.short));
      file = whole_file m.blocks.now (chain_of m k) ws some
          (ap (λ x. take x (content_of m k)) (long ∙ omega arith) ∙ c.loop-i.invariant.content ∙ ap (λ x. drop (4 * x) ws) z);
      units = c.loop-i.invariant.units;
    }
