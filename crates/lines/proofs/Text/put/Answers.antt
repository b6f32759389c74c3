use Rattle.std.proofs.Common.{ap, ◌∙◌, refl, ◌+◌, length}
use lib.Seq.{length-sets}
use Rattle.lines.specs.Text.{put}
use Rattle.lines.proofs.TextLaws.{copied}
use Rattle.lines.proofs.Text.put.Goals as goal

pub returns-clause-put : goal.returns-clause-put
unfolding put
returns-clause-put c =
    let t = c.args.self.now in
    let text = c.args.text.now in
    record {
      written = rw c.copy_from_slice.ensures.after (ap (λ l. (t.used + length text, l)) (copied text t.out.now t.used c.requires));
      same = record {
        reference = refl;
        size = rw c.copy_from_slice.ensures.after (ap length (copied text t.out.now t.used c.requires) ∙ length-sets t.out.now t.used text);
      };
    }
