use Rattle.std.proofs.Common.{◌≡◌, ◌∙◌, ap, drop, refl, sym, arith, Some}
use Rattle.std.proofs.lemmas.Option.{slice_get_read}
use Rattle.std.specs.List.{slice_get}
use Rattle.world_lines.proofs.Weights.{no_longer}
use Rattle.world_lines.proofs.WordAt.{reads_behind}
use Rattle.world_lines.proofs.command.command_at.Goals as goal

pub command_behind-requires-clause-short : goal.command_behind-requires-clause-short
command_behind-requires-clause-short c = omega (arith, no_longer c.args.index c.args.line.now c.in-Some.rest.now c.in-Some.ensures.some, c.requires.short)

pub returns-in-Some-clause-read : goal.returns-in-Some-clause-read
returns-in-Some-clause-read c =
    let at : slice_get c.args.words.now c.args.index ≡ Some c.index-words-index.result = slice_get_read c.args.words.now _ c.args.index c.index-words-index.result refl c.if-index-words.false c.index-words-index.is in
    reads_behind c.args.words.now c.args.index c.args.reads c.as_str-name.result.now c.in-Some.rest.now c.command_behind.result
    (at ∙ ap Some (sym c.as_str-name.ensures)) (sym c.is_barred.ensures ∙ c.if-is_barred.false) (sym c.is_wanted.ensures ∙ c.if-not-is_wanted.false)
    (c.in-Some.ensures.some ∙ ap (drop c.args.index) (sym c.requires.words)) c.command_behind.ensures.read
