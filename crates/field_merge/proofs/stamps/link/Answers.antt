use Rattle.std.proofs.Common.{◌<◌, length, arith, ap, refl, ◌∙◌}
use Rattle.std.proofs.lemmas.List.{get_or_default}
use Rattle.field_merge.specs.Stamps.{bucket_of, stamp_of}
use Rattle.field_merge.proofs.Links.{put_linked, put_same}
use Rattle.field_merge.proofs.stamps.link.Goals as goal

pub links-preserved : goal.links-preserved
links-preserved c =
    let inside : c.links.at < length c.links.kept = omega arith in
    record {
      same = put_same c.links.kept c.links.at c.index-kept-at-in-links.result _ refl ∙ c.links.invariant.same;
      linked =
          put_linked c.links.heads c.links.kept c.links.at c.bucket_of-bucket.result c.index-kept-at-in-links.result _ c.links.invariant.linked inside c.bucket_of-bucket.ensures.within
          (c.bucket_of-bucket.ensures.is ∙ ap (bucket_of (length c.links.heads)) (c.stamp.ensures ∙ ap stamp_of (get_or_default c.links.kept c.links.at c.index-kept-at.result c.index-kept-at-in-links.result inside)))
          refl refl;
    }
