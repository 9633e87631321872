mod StpLaws
