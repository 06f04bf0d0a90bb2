use Rattle.cluster.proofs.cluster.Cluster.letter.Goals as goal

pub returns-clause-reply : goal.returns-clause-reply
returns-clause-reply g c = c.letter.ensures.reply (g.T.Rotation.leads c.args.self.now.rotation)
