use Rattle.std.proofs.Common.{[], ◌∷◌, ◌++◌, vec_items, sym, ap, ◌∙◌, append_assoc}
use Rattle.package.specs.Packages.{text_words}
use Rattle.pack.proofs.encode.push_text.Goals as goal

pub loop-word-preserved : goal.loop-word-preserved
loop-word-preserved c =
    let rest = text_words c.in-Some.rest.now in
    ap (λ l. l ++ rest) c.in_ok-push.ensures.items ∙ append_assoc (vec_items c.loop-word.words) (c.in-Some.word ∷ []) rest
    ∙ ap (λ l. vec_items c.loop-word.words ++ l) (sym c.in-Some.ensures.0) ∙ c.loop-word.invariant
