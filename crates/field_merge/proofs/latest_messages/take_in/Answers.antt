use Rattle.std.proofs.Common.{◌≡◌, ◌<◌, IfSome, length, refl, slice_index_or}
use Rattle.std.proofs.lemmas.Result.{on_ok_weaker}
use Rattle.field_merge.specs.declared.message.Message.{Message}
use Rattle.field_merge.proofs.Taking.{put_behind, put_over_there}
use Rattle.field_merge.proofs.latest_messages.take_in.Goals as goal

pub returns-in-Some : goal.returns-in-Some
returns-in-Some c =
    let old = c.args.came.now.items in
    let there : c.in-Some.at < length old = rw c.in-Some.is at c.requires.there in
    let field : (m : Message) → (slice_index_or old c.in-Some.at m).field ≡ c.args.draft.names = rw c.in-Some.is at c.requires.field in
    on_ok_weaker c.keep_later.result (λ is. put_over_there _ refl there field c.index_mut.ensures.value is) c.keep_later.ensures

pub returns : goal.returns
returns c = on_ok_weaker c.put_behind.result (λ is. put_behind c.args.came.now.items _ _ is) c.put_behind.ensures
