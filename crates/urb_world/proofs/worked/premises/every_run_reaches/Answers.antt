-- Every run reaches its last world.
use Rattle.urb_world.proofs.Common.{Of_images, Of_new, image_of, opened, started}
use Rattle.urb_world.proofs.worked.premises.every_run_reaches.Goals as goal

pub returns-clause-new : goal.returns-clause-new
returns-clause-new c size events replies w ran =
    record {
      start = started size;
      is_start = Of_new size;
      events = events;
      replies = replies;
      ran = ran;
    }

pub returns-clause-images : goal.returns-clause-images
returns-clause-images c size images events replies w are fits ran =
    record {
      start = opened size (image_of images);
      is_start = Of_images size images are fits;
      events = events;
      replies = replies;
      ran = ran;
    }
