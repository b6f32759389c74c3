use mathlib.Core.Path.{sym, ◌∙◌}
use Rattle.schema.specs.Fields.{schema_of}
use Rattle.bridge.specs.Fit.{work_of}
use Rattle.change_parts.proofs.PartLaws as law
use Rattle.change_parts.proofs.admits.Goals as goal

pub returns-then-is_full : goal.returns-then-is_full
returns-then-is_full c =
    let sc = schema_of c.args.schema.now.bytes in
    law.admits_full sc c.args.t c.args.r c.args.image (work_of sc c.args.area.now) (sym c.is_full.ensures ∙ c.if-is_full.true)

pub returns-then-uses_broken : goal.returns-then-uses_broken
returns-then-uses_broken c =
    let sc = schema_of c.args.schema.now.bytes in
    law.admits_broken sc c.args.t c.args.r c.args.image (work_of sc c.args.area.now) (sym c.is_full.ensures ∙ c.if-is_full.false) (sym c.uses_broken.ensures ∙ c.if-uses_broken.true)

pub returns-then-not-image_live : goal.returns-then-not-image_live
returns-then-not-image_live c =
    let image_live = c.image_live in
    let sc = schema_of c.args.schema.now.bytes in
    let is_full = c.is_full in
    let uses_broken = c.uses_broken in
    law.admits_deleted sc c.args.t c.args.r c.args.image (work_of sc c.args.area.now) (sym is_full.ensures ∙ c.if-is_full.false) (sym uses_broken.ensures ∙ c.if-uses_broken.false) (sym image_live.ensures ∙ c.if-not-image_live.true)

pub returns-then-not_null_broken : goal.returns-then-not_null_broken
returns-then-not_null_broken c =
    let sc = schema_of c.args.schema.now.bytes in
    let room = sym c.is_full.ensures ∙ c.if-is_full.false in
    let none = sym c.uses_broken.ensures ∙ c.if-uses_broken.false in
    let on = sym c.image_live.ensures ∙ c.if-not-image_live.false in
    law.admits_null sc c.args.t c.args.r c.args.image (work_of sc c.args.area.now) room none on (sym c.not_null_broken.ensures ∙ c.if-not_null_broken.true)

pub returns-then-unique_broken : goal.returns-then-unique_broken
returns-then-unique_broken c =
    let sc = schema_of c.args.schema.now.bytes in
    let room = sym c.is_full.ensures ∙ c.if-is_full.false in
    let none = sym c.uses_broken.ensures ∙ c.if-uses_broken.false in
    let on = sym c.image_live.ensures ∙ c.if-not-image_live.false in
    let full = sym c.not_null_broken.ensures ∙ c.if-not_null_broken.false in
    law.admits_unique sc c.args.t c.args.r c.args.image (work_of sc c.args.area.now) room none on full (sym c.unique_broken.ensures ∙ c.if-unique_broken.true)

pub returns-then-windows_broken : goal.returns-then-windows_broken
returns-then-windows_broken c =
    let sc = schema_of c.args.schema.now.bytes in
    let room = sym c.is_full.ensures ∙ c.if-is_full.false in
    let none = sym c.uses_broken.ensures ∙ c.if-uses_broken.false in
    let on = sym c.image_live.ensures ∙ c.if-not-image_live.false in
    let full = sym c.not_null_broken.ensures ∙ c.if-not_null_broken.false in
    let apart = sym c.unique_broken.ensures ∙ c.if-unique_broken.false in
    law.admits_window sc c.args.t c.args.r c.args.image (work_of sc c.args.area.now) room none on full apart (sym c.windows_broken.ensures ∙ c.if-windows_broken.true)

pub returns : goal.returns
returns c =
    let sc = schema_of c.args.schema.now.bytes in
    let room = sym c.is_full.ensures ∙ c.if-is_full.false in
    let none = sym c.uses_broken.ensures ∙ c.if-uses_broken.false in
    let on = sym c.image_live.ensures ∙ c.if-not-image_live.false in
    let full = sym c.not_null_broken.ensures ∙ c.if-not_null_broken.false in
    let apart = sym c.unique_broken.ensures ∙ c.if-unique_broken.false in
    law.admits_pass sc c.args.t c.args.r c.args.image (work_of sc c.args.area.now) room none on full apart (sym c.windows_broken.ensures ∙ c.if-windows_broken.false)
